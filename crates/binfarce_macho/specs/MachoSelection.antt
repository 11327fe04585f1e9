-- The function symbols of a selection of a Mach-O file: those of the code section, or those of all sections.
use Rattle.std.specs.Prelude.{◌≢◌, ℕ, ◌+◌, Bool, true, false, List, [], ◌∷◌, codes, map, slice_get, nat_eq, Option, Some, None, Result, Ok, Err, if◌then◌else◌}
use Rattle.std.specs.List.{range_with_len, flat_map}
use Rattle.std.specs.Option.{option_map}
use Rattle.std.specs.Str.{bytes_eq}
use Rattle.std.specs.String.{string_bytes}
use Rattle.binfarce_bytes.specs.Refusal.{◌>>=◌, Refusal, required, symbols_section_is_missing, if_as_long_as}
use Rattle.binfarce_bytes.specs.SectionEntries.{SectionEntry, SelectedSymbols}
use Rattle.binfarce_macho.specs.declared.numbered.CodeSection as code_section
use Rattle.binfarce_macho.specs.declared.numbered.NumberedSection as code_numbered
use Rattle.binfarce_macho.specs.declared.numbered.SelectedSections as code_sections
use Rattle.binfarce_macho.specs.declared.symbols.Extent as code_extent
use Rattle.binfarce_macho.specs.declared.symbols.SymbolBytes as code_symbols
use Rattle.binfarce_macho.specs.Macho.{least_length}
use Rattle.binfarce_macho.specs.MachoSections.{NumberedSection, greatest_section, numbered_sections, name_of, entries_at}
use Rattle.binfarce_macho.specs.MachoSymbols.{Extent, Symbols, Located, table_of, symbols_by, row_addresses}

-- the code section, by its name as `otool` and `ld` have it
abbrev pub is_code : Option (List ℕ) → Bool
is_code None = false
is_code (Some name) = bytes_eq name (codes "__TEXT,__text")

-- its index among the sections, and its size in bytes
pub record CodeSection : Type 0 where
  pub index : ℕ
  pub size : ℕ

-- the first code section among sections of which the first has this index
unfoldable pub code_among : ℕ → List NumberedSection → Option CodeSection
code_among index [] = None
code_among index (section ∷ others) =
    if is_code section.name then Some (record { index = index; size = section.extent.size }) else code_among (index + 1) others

-- the code section where a name is selected, whichever it is; none where all sections are
abbrev pub code_of : Option (List ℕ) → List NumberedSection → Result (Option CodeSection) Refusal
code_of None sections = Ok None
code_of (Some name) sections = required symbols_section_is_missing (code_among 0 sections) >>= λ code. Ok (Some code)

-- the sections in the order of their numbers, of which all are selected or the code section alone
pub record SelectedSections : Type 0 where
  pub sections : List NumberedSection
  pub code : Option CodeSection

-- those of a file
unfoldable pub sections_in : Option (List ℕ) → List ℕ → Result SelectedSections Refusal
sections_in section file = do
  sections ← numbered_sections file
  code ← code_of section sections
  Ok (record { sections = sections; code = code })

-- what the function symbols of a selection are made of: the sections; and the symbols, where the file has a symbol table
pub record SelectedTables : Type 0 where
  pub sections : SelectedSections
  pub symbols : Option Symbols

-- those of a file, or its refusals in order
unfoldable pub selected_tables : Option (List ℕ) → List ℕ → Result SelectedTables Refusal
selected_tables section file = do
  sections ← sections_in section file
  table ← table_of file
  symbols ← symbols_by file table
  Ok (record { sections = sections; symbols = symbols })

-- where the file has a header
abbrev pub selected_file_tables : Option (List ℕ) → List ℕ → Result SelectedTables Refusal
selected_file_tables section file = if_as_long_as least_length file (selected_tables section file)

-- the section of this index is selected: each is, or the code section alone
abbrev pub is_selected : Option CodeSection → ℕ → Bool
is_selected None index = true
is_selected (Some code) index = nat_eq index code.index

-- the entries of the section of this index, if it is selected; its number is one more
abbrev pub selected_at : SelectedSections → Symbols → ℕ → List SectionEntry
selected_at selected symbols index = if is_selected selected.code index then entries_at symbols (index + 1) (slice_get selected.sections index) else []

-- the entries of the selected sections, in the order of their numbers
unfoldable pub entries_of_selected : SelectedSections → Symbols → List SectionEntry
entries_of_selected selected symbols = flat_map (selected_at selected symbols) (range_with_len 0 greatest_section)

-- so of a file: without a symbol table there are none
abbrev pub entries_in : SelectedSections → Option Symbols → List SectionEntry
entries_in selected None = []
entries_in selected (Some symbols) = entries_of_selected selected symbols

-- the size of the code section, where it alone is selected
abbrev pub section_size : SelectedSections → Option ℕ
section_size selected = option_map (λ code. code.size) selected.code

-- the function symbols that are made of these tables. The sections of an object file, too, have addresses of their own
abbrev pub symbols_of : SelectedTables → SelectedSymbols
symbols_of tables = record {
  entries = entries_in tables.sections tables.symbols;
  section_size = section_size tables.sections;
  section_name = name_of tables.sections.sections;
  shares_addresses = false;
  version_name = λ version. None;
}

-- what a file answers for a selection
abbrev pub selected_answer : Option (List ℕ) → List ℕ → Result SelectedSymbols Refusal
selected_answer section file = selected_tables section file >>= λ tables. Ok (symbols_of tables)

-- that of a file that has a header
abbrev pub selected_file_answer : Option (List ℕ) → List ℕ → Result SelectedSymbols Refusal
selected_file_answer section file = selected_file_tables section file >>= λ tables. Ok (symbols_of tables)

-- the entries of all sections of a file
unfoldable pub all_answer : List ℕ → Result (List SectionEntry) Refusal
all_answer file = selected_answer None file >>= λ selected. Ok selected.entries

-- a text's symbols are located, and have an address
abbrev pub SomeAddress : Result (Option Located) Refusal → Type 0
SomeAddress (Ok (Some found)) = row_addresses found.rows ≢ []
SomeAddress (Ok None) = ⊥
SomeAddress (Err refusal) = ⊥

-- an `Extent`
abbrev pub extent_view : code_extent.Extent → Extent
extent_view e = record { address = e.address; size = e.size }

-- a `NumberedSection`
abbrev pub numbered_view : code_numbered.NumberedSection → NumberedSection
numbered_view s = record { extent = extent_view s.extent; has_instructions = s.has_instructions; name = option_map string_bytes s.name }

-- a `CodeSection`
abbrev pub code_view : code_section.CodeSection → CodeSection
code_view c = record { index = c.index; size = c.size }

-- a `SelectedSections`
abbrev pub sections_view : code_sections.SelectedSections → SelectedSections
sections_view s = record { sections = map numbered_view s.sections.items; code = option_map code_view s.code }

-- a `SymbolBytes`
abbrev pub symbols_view : code_symbols.SymbolBytes → Symbols
symbols_view s = record { strings = s.strings.now; rows = s.rows.now }
