-- The sections and the table that are found in the load commands of a Mach-O file.
use Rattle.std.specs.Prelude.{ℕ, List, Option, Result, Ok}
use Rattle.std.specs.Option.{option_map}
use Rattle.binfarce_bytes.specs.Refusal.{◌>>=◌, Refusal}
use Rattle.binfarce_macho.specs.MachoParts.{table_view}
use Rattle.binfarce_macho.specs.MachoSelection.{SelectedSections, sections_in, sections_view}
use Rattle.binfarce_macho.specs.MachoSymbols.{SymtabCommand, table_of}
use Rattle.binfarce_tables.specs.declared.macho.Found.{Found}

-- what the load commands say that the function symbols of a selection need
pub record CommandParts : Type 0 where
  pub sections : SelectedSections
  pub table : Option (SymtabCommand ℕ)

abbrev pub selected_commands : Option (List ℕ) → List ℕ → Result CommandParts Refusal
selected_commands section file = do
  sections ← sections_in section file
  table ← table_of file
  Ok (record { sections = sections; table = table })

-- what was found
abbrev pub found_view : Found → CommandParts
found_view f = record { sections = sections_view f.sections; table = option_map table_view f.table }
