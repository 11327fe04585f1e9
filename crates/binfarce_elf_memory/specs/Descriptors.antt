-- The functions of 64-bit PowerPC files of ABI version 1. The value of such a function's symbol is the address of a descriptor in the section `.opd`; the
-- descriptor begins with the address of the code, and the symbol's size is that of the code (64-bit PowerPC ELF Application Binary Interface Supplement,
-- "Function Descriptors", "Symbol Values").
use Rattle.std.specs.Prelude.{ℕ, ◌+◌, ◌-◌, ◌*◌, ◌/◌, ◌%◌, Bool, true, ◌&&◌, List, [], ◌∷◌, ◌++◌, codes, length, map, filter, find, take, drop, bit_and, Option, Some, None, nat_eq, nat_le, nat_lt, not, slice_get, if◌then◌else◌}
use Rattle.std.specs.List.{range_with_len, flat_map}
use Rattle.binfarce_bytes.specs.declared.ByteOrder.{ByteOrder}
use Rattle.binfarce_bytes.specs.declared.ByteOrder.TheVariants.{LittleEndian, BigEndian}
use Rattle.binfarce_bytes.specs.Field.{field, value_at}
use Rattle.binfarce_bytes.specs.Number.{bytes_at}
use Rattle.binfarce_bytes.specs.Sizes.{least_above}
use Rattle.binfarce_bytes.specs.Walk.{Walk}
use Rattle.binfarce_elf.specs.Elf.{ElfClass, Section, SymbolRow, elf64, name_among}
use Rattle.binfarce_elf.specs.ElfSymbols.{is_named, row_of}
use Rattle.binfarce_elf_memory.specs.ElfEnds.{FileKind, is_function_kind}
use Rattle.binfarce_elf_memory.specs.Versions.{bytes_if}

-- the functions of a file of 64 bits have descriptors: it is for EM_PPC64 (21), of an ABI version (e_flags % 4) below 2, and no object (ET_REL, 1), in which the
-- linker has yet to fill them
abbrev pub has_descriptors : FileKind → Bool
has_descriptors kind = nat_eq kind.machine 21 && nat_lt (kind.flags % 4) 2 && not (nat_eq kind.elf_type 1)

-- the section of the descriptors: the first named `.opd`. A file of 64 bits has rows of 24 bytes
abbrev pub descriptors_section : ElfClass → FileKind → Walk Section → Option (List ℕ) → Option Section
descriptors_section class kind sections names =
    if nat_eq class.symbol_length 24 && has_descriptors kind then find (λ s. is_named (codes ".opd") (name_among names s.name_offset)) sections.items else None

-- the section, if it has bytes in the file: a file of debugging information keeps none (SHT_NOBITS, 8)
abbrev pub stored : Section → Option Section
stored s = if nat_eq s.kind 8 then None else Some s

-- the first 8 bytes of the descriptor at an address, where the section has them: the address of the code
abbrev pub code_bytes : Section → (descriptors : List ℕ) → ℕ → Option (List ℕ)
code_bytes section descriptors address =
    if nat_le section.address address && nat_le ((address - section.address) + 8) (length descriptors) then Some (bytes_at descriptors (address - section.address) 8) else None

-- a section of code (SHF_EXECINSTR, 4), by the number of its end and its index: their order is that of the ends, and at one end that of the sections
abbrev pub has_code : Section → Bool
has_code s = not (nat_eq (bit_and s.flags 4) 0)

abbrev pub end_number : Section → ℕ
end_number s = (s.address + s.size) * 65536 + s.index

abbrev pub code_ends : List Section → List ℕ
code_ends sections = map end_number (filter has_code sections)

-- the index of the section, where it begins at or before this address; else SHN_UNDEF (0)
abbrev pub if_begun : ℕ → ℕ → Option Section → ℕ
if_begun address index None = 0
if_begun address index (Some s) = if nat_le s.address address then index else 0

abbrev pub holding_by : Walk Section → ℕ → Option ℕ → ℕ
holding_by sections address None = 0
holding_by sections address (Some n) = if_begun address (n % 65536) (slice_get sections.items (n % 65536))

-- the index of the section of code that holds an address: of those that end above it the one that ends first, if it begins at or before it; else SHN_UNDEF (0)
unfoldable pub section_holding : Walk Section → ℕ → ℕ
section_holding sections address = holding_by sections address (least_above (code_ends sections.items) (address * 65536 + 65535))

-- the two bytes of a section's index
abbrev pub index_bytes : ByteOrder → ℕ → List ℕ
index_bytes LittleEndian n = (n % 256) ∷ (n / 256) ∷ []
index_bytes BigEndian n = (n / 256) ∷ (n % 256) ∷ []

-- the bytes of a row with another section (st_shndx, 6/2) and another value (st_value, 8/8)
abbrev pub with_place : List ℕ → (section value : List ℕ) → List ℕ
with_place row section value = take 6 row ++ (section ++ (value ++ drop 16 row))

-- a function's row with the section and the address of its code, where its descriptor has one; else of no section: SHN_UNDEF (0)
abbrev pub in_code : ByteOrder → Walk Section → List ℕ → Option (List ℕ) → List ℕ
in_code order sections row None = with_place row (0 ∷ 0 ∷ []) (bytes_at row 8 8)
in_code order sections row (Some code) = with_place row (index_bytes order (section_holding sections (value_at order code 0 (field 0 8)))) code

-- a function with a descriptor in this section
abbrev pub has_descriptor : Section → SymbolRow ℕ → Bool
has_descriptor section row = is_function_kind true row && nat_eq row.section section.index

-- the bytes of row k of a symbol table: those of a function with a descriptor in this section where its code is
unfoldable pub row_in_code : ByteOrder → Walk Section → Section → (descriptors rows : List ℕ) → ℕ → List ℕ
row_in_code order sections section descriptors rows k =
    let row = row_of elf64 order rows k in
    if has_descriptor section row
    then in_code order sections (bytes_at rows (k * 24) 24) (code_bytes section descriptors row.value)
    else bytes_at rows (k * 24) 24

-- all rows
abbrev pub rows_in_code : ByteOrder → Walk Section → Section → (descriptors rows : List ℕ) → List ℕ
rows_in_code order sections section descriptors rows = flat_map (row_in_code order sections section descriptors rows) (range_with_len 0 (length rows / 24))

-- the symbol table of a file with descriptors in this section; of one without as it is
abbrev pub rows_by : ByteOrder → Walk Section → (file : List ℕ) → Option Section → (rows : List ℕ) → List ℕ
rows_by order sections file None rows = rows
rows_by order sections file (Some section) rows = rows_in_code order sections section (bytes_if file (stored section)) rows
