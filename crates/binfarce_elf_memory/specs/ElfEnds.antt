-- The addresses of functions in memory, and where those without a size end.
use Rattle.std.specs.Prelude.{ℕ, ◌+◌, ◌-◌, ◌%◌, ◌^◌, Bool, true, ◌&&◌, ◌||◌, List, [], ◌∷◌, ◌++◌, codes, map, filter, drop, min, Option, Some, None, nat_eq, if◌then◌else◌}
use Rattle.std.specs.Option.{option_map, unwrap_or}
use Rattle.std.specs.List.{range_with_len, filter_map, starts_with}
use Rattle.binfarce_bytes.specs.declared.ByteOrder.{ByteOrder}
use Rattle.binfarce_bytes.specs.Sizes.{least_above}
use Rattle.binfarce_bytes.specs.Walk.{Walk}
use Rattle.binfarce_elf.specs.Elf.{ElfClass, Header, SectionTable, Section, SymbolRow, header_of}
use Rattle.binfarce_elf.specs.ElfSymbols.{is_function, row_count, row_of}
use Rattle.binfarce_elf.specs.SymbolTables.{TableRows}

-- what the file header says of addresses: the file's type, its machine and that machine's flags
pub record FileKind : Type 0 where
  pub elf_type : ℕ
  pub machine : ℕ
  pub flags : ℕ

abbrev pub file_kind : Header ℕ → FileKind
file_kind header = record { elf_type = header.elf_type; machine = header.machine; flags = header.flags }

abbrev pub kind_of : ElfClass → SectionTable → FileKind
kind_of class table = file_kind (header_of class table.order table.file)

-- a function, or if indirect functions count one of these: STT_GNU_IFUNC (10)
abbrev pub is_function_kind : (indirect : Bool) → SymbolRow ℕ → Bool
is_function_kind indirect row = is_function row || (indirect && nat_eq (row.info % 16) 10)

-- bit 0 of a function's value is its instruction set and no part of its address: in files of EM_ARM (40) (ELF for the Arm Architecture, "Symbol values"), and
-- of EM_MIPS (8), where it is that of MIPS16 and microMIPS code (MIPS Architecture for Programmers, "ISA mode")
abbrev pub has_modes : FileKind → Bool
has_modes kind = nat_eq kind.machine 40 || nat_eq kind.machine 8

-- a row's address in memory, or in an object in its section: its value; a function's without that bit
abbrev pub address_of : (has_modes : Bool) → SymbolRow ℕ → ℕ
address_of has_modes row = if has_modes && is_function_kind true row then row.value - row.value % 2 else row.value

-- an address at which a function of a section may end
pub record End : Type 0 where
  pub section : ℕ
  pub address : ℕ

-- a section's end, at most the greatest address: `sh_addr` and `sh_size`; in an object (ET_REL, 1), where values count from the section, `sh_size`
abbrev pub section_end : FileKind → Section → End
section_end kind s = record { section = s.index; address = min (2 ^ 64 - 1) (if nat_eq kind.elf_type 1 then s.size else s.address + s.size) }

-- what begins with the name of a mapping symbol, which marks code or data: $a, $d or $t, alone or before a dot (ELF for the Arm Architecture, "Mapping
-- symbols"), and $x, in RISC-V also before an instruction set (its psABI, "Mapping Symbol")
abbrev pub is_mapping : List ℕ → Bool
is_mapping name =
    starts_with nat_eq name (codes "$x")
    || (starts_with nat_eq name (codes "$a.") || starts_with nat_eq name (0x24 ∷ 0x61 ∷ 0 ∷ []))
    || (starts_with nat_eq name (codes "$d.") || starts_with nat_eq name (0x24 ∷ 0x64 ∷ 0 ∷ []))
    || (starts_with nat_eq name (codes "$t.") || starts_with nat_eq name (0x24 ∷ 0x74 ∷ 0 ∷ []))

-- a symbol that marks a place within a function: local and of no type (STB_LOCAL, STT_NOTYPE), a mapping symbol or a label of the assembler
abbrev pub is_mark : List ℕ → SymbolRow ℕ → Bool
is_mark strings row = nat_eq row.info 0 && (is_mapping (drop row.name strings) || starts_with nat_eq (drop row.name strings) (codes ".L"))

-- the address of a symbol of whatever other kind
abbrev pub symbol_end : List ℕ → (has_modes : Bool) → SymbolRow ℕ → Option End
symbol_end strings has_modes row = if is_mark strings row then None else Some (record { section = row.section; address = address_of has_modes row })

-- the addresses of the first n symbols of a table
abbrev pub symbol_ends : ElfClass → ByteOrder → (has_modes : Bool) → TableRows → ℕ → List End
symbol_ends class order has_modes found n = filter_map (λ k. symbol_end found.strings has_modes (row_of class order found.rows k)) (range_with_len 0 n)

-- the ends of the sections, and the addresses of the symbols
abbrev pub ends_of : ElfClass → ByteOrder → Walk Section → FileKind → TableRows → List End
ends_of class order sections kind found = map (section_end kind) sections.items ++ symbol_ends class order (has_modes kind) found (row_count class found.rows)

-- those in the section of this index
abbrev pub addresses_in : List End → ℕ → List ℕ
addresses_in ends section = map (λ e. e.address) (filter (λ e. nat_eq e.section section) ends)

-- a row's size: the one that it states; if that is 0, up to the least end in its section above its address, and 0 if there is none
unfoldable pub size_of : List End → (has_modes : Bool) → SymbolRow ℕ → ℕ
size_of ends has_modes row =
    let address = address_of has_modes row in
    if nat_eq row.size 0 then unwrap_or (option_map (λ e. e - address) (least_above (addresses_in ends row.section) address)) 0 else row.size
