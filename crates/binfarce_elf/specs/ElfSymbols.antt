-- The function symbols of one section of an ELF file, by its symbol table (System V gABI, "Symbol Table").
use Rattle.std.specs.Prelude.{ℕ, ◌*◌, ◌/◌, ◌%◌, Bool, false, ◌&&◌, List, length, codes, Option, Some, None, Result, Ok, Err, nat_eq, not, if◌then◌else◌}
use Rattle.std.specs.Option.{option_map}
use Rattle.std.specs.List.{range_with_len, filter_map}
use Rattle.std.specs.Str.{bytes_eq}
use Rattle.binfarce_bytes.specs.declared.ByteOrder.{ByteOrder}
use Rattle.binfarce_bytes.specs.Text.{text_at}
use Rattle.binfarce_bytes.specs.Refusal.{◌>>=◌, Refusal, required, symbols_section_is_missing, section_is_missing, unexpected_section_type, unexpected_eof, if_as_long_as, bytes_in_file}
use Rattle.binfarce_bytes.specs.Walk.{Walk, first}
use Rattle.binfarce_bytes.specs.Field.{value_at}
use Rattle.binfarce_bytes.specs.Entries.{Entry, Listed}
use Rattle.binfarce_elf.specs.Elf.{ElfClass, SectionTable, Section, SymbolRow, section_table, walk, name_of}

-- the row that begins at start
unfoldable pub symbol_at : ElfClass → ByteOrder → List ℕ → ℕ → SymbolRow ℕ
symbol_at class order rows start = record {
  name = value_at order rows start class.symbol.name;
  value = value_at order rows start class.symbol.value;
  size = value_at order rows start class.symbol.size;
  info = value_at order rows start class.symbol.info;
  other = value_at order rows start class.symbol.other;
  section = value_at order rows start class.symbol.section;
}

-- row k of a table, whose rows have the class's length
abbrev pub row_of : ElfClass → ByteOrder → List ℕ → ℕ → SymbolRow ℕ
row_of class order rows k = symbol_at class order rows (k * class.symbol_length)

abbrev pub row_count : ElfClass → List ℕ → ℕ
row_count class rows = length rows / class.symbol_length

-- a function: its type, the low four bits of info, is STT_FUNC (2)
abbrev pub is_function : SymbolRow ℕ → Bool
is_function row = nat_eq (row.info % 16) 2

-- a row that is kept: a function of the section of this index, with a size and a name offset
abbrev pub is_kept : (index : ℕ) → SymbolRow ℕ → Bool
is_kept index row = nat_eq row.section index && not (nat_eq row.size 0) && not (nat_eq row.name 0) && is_function row

-- the entry of such a row, where its name is valid: with its own value and size
unfoldable pub entry_of : (strings : List ℕ) → (index : ℕ) → SymbolRow ℕ → Option Entry
entry_of strings index row =
    if is_kept index row then option_map (λ name. record { name = name; address = row.value; size = row.size }) (text_at strings row.name) else None

-- the entries of a table's rows, in table order
unfoldable pub entries_of : ElfClass → ByteOrder → (strings rows : List ℕ) → (index : ℕ) → List Entry
entries_of class order strings rows index = filter_map (λ k. entry_of strings index (row_of class order rows k)) (range_with_len 0 (row_count class rows))

-- a name is this one
abbrev pub is_named : List ℕ → Option (List ℕ) → Bool
is_named text None = false
is_named text (Some name) = bytes_eq name text

-- the first such section, or the refusal if there is none
abbrev pub sought : Refusal → (Section → Bool) → Walk Section → Result Section Refusal
sought refusal accepts sections = first accepts sections >>= required refusal

-- the section, where it is a string table: SHT_STRTAB (3)
abbrev pub string_table_kind : Section → Result Section Refusal
string_table_kind section = if nat_eq section.kind 3 then Ok section else Err (unexpected_section_type 3 section.kind)

-- the bytes of a section
unfoldable pub section_data : List ℕ → Section → Result (List ℕ) Refusal
section_data file section = bytes_in_file file section.offset section.size

-- the rows, of which none is truncated
abbrev pub whole_rows : ElfClass → List ℕ → Result (List ℕ) Refusal
whole_rows class rows = if nat_eq (length rows % class.symbol_length) 0 then Ok rows else Err unexpected_eof

-- the refusals in order, else the entries of the section with this name, and its size. The symbol table is the first section of type SHT_SYMTAB (2), and its
-- strings are in the section that it links to
unfoldable pub elf_answer : ElfClass → SectionTable → (name : List ℕ) → Result Listed Refusal
elf_answer class table name = do
  section ← sought symbols_section_is_missing (λ s. is_named name (name_of class table s)) (walk class table)
  symbols ← sought (section_is_missing (codes ".symtab")) (λ s. nat_eq s.kind 2) (walk class table)
  linked ← sought (section_is_missing (codes ".strtab")) (λ s. nat_eq s.index symbols.link) (walk class table)
  names ← string_table_kind linked
  strings ← section_data table.file names
  bytes ← section_data table.file symbols
  rows ← whole_rows class bytes
  Ok (record { entries = entries_of class table.order strings rows section.index; section_size = section.size })

-- that of a file that has a header
abbrev pub elf_file_answer : ElfClass → ByteOrder → (file name : List ℕ) → Result Listed Refusal
elf_file_answer class order file name =
    if_as_long_as class.header_length file (elf_answer class (section_table class (record { order = order; bytes = file })) name)
