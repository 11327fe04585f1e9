-- What a reading of a PE file's parts gives that the function symbols of a selection are read from; its sections, and their names; and whether it has any
-- symbol.
use Rattle.std.specs.Prelude.{◌≡◌, ℕ, Bool, List, [], Result, Ok, Err, nat_lt, if◌then◌else◌}
use Rattle.binfarce_bytes.specs.Refusal.{Refusal, if_as_long_as}
use Rattle.binfarce_bytes.specs.SectionEntries.{SelectedSymbols}
use Rattle.binfarce_pe.specs.Pe.{header_of, least_length, walk}
use Rattle.binfarce_pe.specs.PeNames.{has_long_names, strings_of}
use Rattle.binfarce_pe.specs.PeSelection.{SelectedSections, symbols_of}
use Rattle.binfarce_pe.specs.PeSymbols.{CoffTable}
use Rattle.binfarce_tables.specs.BeginningReading.{ReadsBeginning, pe_sections}
use Rattle.binfarce_tables.specs.declared.error.ReadError.{ReadError}
use Rattle.binfarce_tables.specs.declared.pe.SectionParts.{SectionParts}

-- the selected sections, and a symbol table
pub record SelectedTables : Type 0 where
  pub sections : SelectedSections
  pub symbols : CoffTable

-- their function symbols
abbrev pub selected_view : SelectedTables → SelectedSymbols
selected_view t = symbols_of t.sections t.symbols

-- a file has a symbol table where its header counts records of one (Microsoft PE Format, "COFF File Header", NumberOfSymbols): a stripped file has none
abbrev pub has_symbols : List ℕ → Bool
has_symbols file = nat_lt 0 (header_of file).number_of_symbols

-- that of a file that has a header
abbrev pub file_has_symbols : List ℕ → Result Bool Refusal
file_has_symbols file = if_as_long_as (least_length file) file (Ok (has_symbols file))

-- the string table of a file, where the name of a section is in it
unfoldable pub needed_strings : List ℕ → List ℕ
needed_strings file = if has_long_names (walk file) then strings_of file else []

-- a reading of the sections: a beginning of the file, which has them, and this string table
abbrev pub ReadsSections : Bool → List ℕ → Result SectionParts ReadError → Type 0
ReadsSections may_fail file (Ok p) = ReadsBeginning may_fail pe_sections file (Ok p.beginning) × (p.strings.items ≡ needed_strings file)
ReadsSections may_fail file (Err e) = ReadsBeginning may_fail pe_sections file (Err e)
