-- The function symbols of a selection of an ELF file: those of one section, by either symbol table, as the file stores them; or those of all sections, at
-- their addresses and sizes in memory.
use Rattle.std.specs.Prelude.{◌≡◌, ℕ, Bool, true, false, ◌&&◌, List, map, Option, Some, None, Result, Ok, nat_eq, nat_lt, not, slice_get, if◌then◌else◌}
use Rattle.std.specs.Option.{option_map, option_and_then, unwrap_or}
use Rattle.std.specs.List.{range_with_len, filter_map}
use Rattle.binfarce_bytes.specs.declared.ByteOrder.{ByteOrder}
use Rattle.binfarce_bytes.specs.Text.{text_at}
use Rattle.binfarce_bytes.specs.Refusal.{◌>>=◌, Refusal, symbols_section_is_missing, if_as_long_as}
use Rattle.binfarce_bytes.specs.SectionEntries.{SectionEntry, SelectedSymbols, unless}
use Rattle.binfarce_bytes.specs.Walk.{Walk}
use Rattle.binfarce_bytes.specs.Entries.{Listed}
use Rattle.binfarce_elf.specs.Elf.{ElfClass, SectionTable, Section, SymbolRow, header_of, section_table, walk, names_bytes, name_among}
use Rattle.binfarce_elf.specs.ElfSymbols.{elf_answer, is_named, row_count, row_of, sought}
use Rattle.binfarce_elf.specs.SymbolTables.{TableRows, TableSections, rows_at, table_sections}
use Rattle.binfarce_elf.specs.declared.symbol_table.SymbolTable.{SymbolTable}
use Rattle.binfarce_elf.specs.declared.symbol_table.SymbolTable.TheVariants.{Symtab, Dynsym}
use Rattle.binfarce_elf_memory.specs.Descriptors.{descriptors_section, rows_by}
use Rattle.binfarce_elf_memory.specs.ElfEnds.{End, FileKind, address_of, ends_of, has_modes, is_function_kind, kind_of, size_of}
use Rattle.binfarce_elf_memory.specs.Versions.{bytes_if, definitions_section, version_name, version_of, versions_section}

-- what a selection takes of a symbol table: the functions of the section of this index, which has this size, and whether indirect ones count; or those of all
-- sections, of which there are so many
pub data Taken : Type 0 where
  one_section : (index size : ℕ) → (indirect : Bool) → Taken
  all_sections : (count : ℕ) → Taken

-- the size of the one section
abbrev pub size_taken : Taken → Option ℕ
size_taken (one_section index size indirect) = Some size
size_taken (all_sections count) = None

-- whether indirect functions count among the functions of one section: by the dynamic symbol table, where `strlen` of a C library is one
abbrev pub has_indirect : SymbolTable → Bool
has_indirect Symtab = false
has_indirect Dynsym = true

-- the index of one of so many sections: above SHN_UNDEF (0), and below SHN_LORESERVE (0xff00)
abbrev pub is_of_section : ℕ → ℕ → Bool
is_of_section count index = nat_lt 0 index && nat_lt index 65280 && nat_lt index count

-- a function that is taken: of the one section, with a size; or of any section
abbrev pub is_taken : Taken → SymbolRow ℕ → Bool
is_taken (one_section index size indirect) row = nat_eq row.section index && not (nat_eq row.size 0) && is_function_kind indirect row
is_taken (all_sections count) row = is_of_section count row.section && is_function_kind true row

-- the name of such a function, if it has a valid one
unfoldable pub function_name : List ℕ → Taken → SymbolRow ℕ → Option (List ℕ)
function_name strings taken row = if is_taken taken row && not (nat_eq row.name 0) then text_at strings row.name else None

-- the address of a function of one section is its value, and of all sections that in memory
abbrev pub address_taken : Taken → (has_modes : Bool) → SymbolRow ℕ → ℕ
address_taken (one_section index size indirect) has_modes row = row.value
address_taken (all_sections count) has_modes row = address_of has_modes row

-- the size of a function of one section is its own, and of all sections this one, in memory
abbrev pub size_in : Taken → SymbolRow ℕ → ℕ → ℕ
size_in (one_section index total indirect) row size = row.size
size_in (all_sections count) row size = size

-- the entry of a row of this version, and of this size in memory
abbrev pub entry_taken : List ℕ → Taken → (has_modes : Bool) → SymbolRow ℕ → (version size : ℕ) → Option SectionEntry
entry_taken strings taken has_modes row version size =
    option_map
    (λ name. record { section = row.section; info = row.info; version = version; entry = record { name = name; address = address_taken taken has_modes row; size = size_in taken row size } })
    (function_name strings taken row)

-- by the ends of its section
abbrev pub entry_sized : List ℕ → Taken → (has_modes : Bool) → List End → SymbolRow ℕ → (version : ℕ) → Option SectionEntry
entry_sized strings taken has_modes ends row version = entry_taken strings taken has_modes row version (size_of ends has_modes row)

-- the entries that a selection takes of all rows with these versions, of a file with these sections, type and machine
abbrev pub taken_from : ElfClass → ByteOrder → Walk Section → FileKind → Taken → TableRows → (versions : List ℕ) → List SectionEntry
taken_from class order sections kind taken found versions =
    filter_map (λ k. entry_sized found.strings taken (has_modes kind) (ends_of class order sections kind found) (row_of class order found.rows k) (version_of order versions k)) (range_with_len 0 (row_count class found.rows))

-- what a selection takes: by a name among the section names that section, which a missing one refuses; else all of so many sections, which the refusal of
-- the walk over them refuses
unfoldable pub taken : SymbolTable → Walk Section → Option (List ℕ) → ℕ → Option (List ℕ) → Result Taken Refusal
taken which sections names count (Some name) = do
  section ← sought symbols_section_is_missing (λ s. is_named name (name_among names s.name_offset)) sections
  Ok (one_section section.index section.size (has_indirect which))
taken which sections names count None = unless sections.refusal (all_sections count)

-- that, and the sections of the symbol table
pub record NeededSections : Type 0 where
  pub taken : Taken
  pub table : TableSections

-- the refusals in order: that of the selection, and those of the symbol table; else the sections
unfoldable pub needed : SymbolTable → Walk Section → Option (List ℕ) → ℕ → Option (List ℕ) → Result NeededSections Refusal
needed which sections names count section = do
  selected ← taken which sections names count section
  table ← table_sections which sections
  Ok (record { taken = selected; table = table })

-- the entries that a selection takes, what it takes, and the strings of the symbol table
pub record Selected : Type 0 where
  pub entries : List SectionEntry
  pub taken : Taken
  pub strings : List ℕ

abbrev pub selected_from : ElfClass → ByteOrder → Walk Section → FileKind → Taken → TableRows → (versions : List ℕ) → Selected
selected_from class order sections kind taken found versions =
    record { entries = taken_from class order sections kind taken found versions; taken = taken; strings = found.strings }

-- the section of the descriptors that a selection needs: none for one section, whose functions are as the file stores them
abbrev pub needed_descriptors : ElfClass → Walk Section → (names : Option (List ℕ)) → FileKind → Taken → Option Section
needed_descriptors class sections names kind (one_section index size indirect) = None
needed_descriptors class sections names kind (all_sections count) = descriptors_section class kind sections names

-- the rows of a selection: those that the file stores, with the functions that have descriptors where their code is
abbrev pub placed_rows : ElfClass → ByteOrder → Walk Section → (names : Option (List ℕ)) → FileKind → (file : List ℕ) → Taken → (rows : List ℕ) → List ℕ
placed_rows class order sections names kind file taken rows = rows_by order sections file (needed_descriptors class sections names kind taken) rows

abbrev pub placed : ElfClass → ByteOrder → Walk Section → (names : Option (List ℕ)) → FileKind → (file : List ℕ) → Taken → TableRows → TableRows
placed class order sections names kind file taken found = record { strings = found.strings; rows = placed_rows class order sections names kind file taken found.rows }

-- these rows, or the refusal of the symbol table's bytes
unfoldable pub rows_taken : ElfClass → ByteOrder → Walk Section → (names : Option (List ℕ)) → FileKind → (file : List ℕ) → NeededSections → Result TableRows Refusal
rows_taken class order sections names kind file needs = do
  found ← rows_at class file needs.table
  Ok (placed class order sections names kind file needs.taken found)

-- the answer for a selection by this symbol table: the refusals in order, else the entries
unfoldable pub elf_selected : SymbolTable → ElfClass → SectionTable → Option (List ℕ) → Result Selected Refusal
elf_selected which class table section = do
  sections ← needed which (walk class table) (names_bytes class table) table.shnum section
  found ← rows_taken class table.order (walk class table) (names_bytes class table) (kind_of class table) table.file sections
  Ok (selected_from class table.order (walk class table) (kind_of class table) sections.taken found (bytes_if table.file (versions_section which (walk class table))))

-- the entries of a section, and its size
abbrev pub listed_of : Selected → Listed
listed_of selected = record { entries = map (λ e. e.entry) selected.entries; section_size = unwrap_or (size_taken selected.taken) 0 }

-- the answer for the section with this name, by this symbol table
unfoldable pub section_answer : SymbolTable → ElfClass → SectionTable → List ℕ → Result Listed Refusal
section_answer which class table name = do
  selected ← elf_selected which class table (Some name)
  Ok (listed_of selected)

-- that of a file that has a header
abbrev pub section_file_answer : SymbolTable → ElfClass → ByteOrder → List ℕ → List ℕ → Result Listed Refusal
section_file_answer which class order file name =
    if_as_long_as class.header_length file (section_answer which class (section_table class (record { order = order; bytes = file })) name)

-- the name of the section of this index, if there is one and it has a name among these
abbrev pub name_of_index : Option (List ℕ) → Walk Section → ℕ → Option (List ℕ)
name_of_index names sections index = option_and_then (λ s. name_among names s.name_offset) (slice_get sections.items index)

-- sections share addresses where all are selected of an object file, of the type ET_REL (1)
abbrev pub share_addresses : Taken → ℕ → Bool
share_addresses (one_section index size indirect) elf_type = false
share_addresses (all_sections count) elf_type = nat_eq elf_type 1

-- the function symbols of a selection, with the section names, the type and the names of versions of a file
abbrev pub symbols_of : Selected → Option (List ℕ) → Walk Section → ℕ → (ℕ → Option (List ℕ)) → SelectedSymbols
symbols_of selected names sections elf_type version_name = record {
  entries = selected.entries;
  section_size = size_taken selected.taken;
  section_name = λ number. name_of_index names sections number;
  shares_addresses = share_addresses selected.taken elf_type;
  version_name = version_name;
}

-- the answer for a selection of a file that has a header
unfoldable pub selected_file_answer : SymbolTable → ElfClass → ByteOrder → List ℕ → Option (List ℕ) → Result SelectedSymbols Refusal
selected_file_answer which class order file section =
    let table = section_table class (record { order = order; bytes = file }) in
    if_as_long_as class.header_length file (do
      selected ← elf_selected which class table section
      Ok (symbols_of selected (names_bytes class table) (walk class table) (header_of class order file).elf_type
          (version_name order selected.strings (bytes_if file (definitions_section which (walk class table))))))

-- a law: by the symbol table, the answer for a section is `elf_answer`
abbrev pub SectionIsAnswered : ElfClass → SectionTable → List ℕ → Type 0
SectionIsAnswered class table name = elf_answer class table name ≡ section_answer Symtab class table name
