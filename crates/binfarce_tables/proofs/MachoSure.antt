-- The parts of a Mach-O file that are surely given.
use Rattle.std.proofs.Common.{◌≡◌, ℕ, false, List, ◌∷◌, length, Option, Result, Ok, Err, subst}
use Rattle.std.specs.Prelude.{All}
use Rattle.std.proofs.lemmas.List.Elements.{All-head, All-tail}
use Rattle.binfarce_bytes.specs.Number.{bytes_at}
use Rattle.binfarce_bytes.specs.Part.{Part, part, parts_if}
use Rattle.binfarce_bytes.specs.Refusal.{◌>>=◌, Refusal}
use Rattle.binfarce_macho.specs.MachoSelection.{SelectedSections, sections_in}
use Rattle.binfarce_macho.specs.MachoParts.{holds_commands}
use Rattle.binfarce_macho.specs.MachoSymbols.{SymtabCommand, table_of}
use Rattle.binfarce_tables.specs.MachoReads.{said_end, whole_file, macho_section_parts, table_parts, found_parts, macho_parts}
use Rattle.binfarce_tables.specs.machine.MachoPlaces.{CommandParts, selected_commands}
use Rattle.binfarce_tables.proofs.Sure.{front, back, only}

-- what is true of each part that is read is true of these
module _ (P : Part → Type 0) (file : List ℕ) where
  pub header_part : All P (macho_section_parts file) → P (part 0 28)
  unfolding macho_section_parts
  header_part all = All-head P (part 0 28) (part 0 (said_end file) ∷ whole_file file) all

  pub prefix_part : All P (macho_section_parts file) → P (part 0 (said_end file))
  unfolding macho_section_parts
  prefix_part all = All-head P (part 0 (said_end file)) (whole_file file) (All-tail P (part 0 28) (part 0 (said_end file) ∷ whole_file file) all)

  pub file_part : holds_commands (bytes_at file 0 (said_end file)) ≡ false → All P (macho_section_parts file) → P (part 0 (length file))
  unfolding macho_section_parts
  file_part past all =
      let rest : All P (whole_file file) = All-tail P (part 0 (said_end file)) (whole_file file) (All-tail P (part 0 28) (part 0 (said_end file) ∷ whole_file file) all) in
      only P (part 0 (length file)) (rw past at rest)

  pub section_parts : All P (macho_parts file) → All P (macho_section_parts file)
  unfolding macho_parts
  section_parts all = front P (macho_section_parts file) (found_parts file (table_of file)) all

  pub symbol_parts : (table : Option (SymtabCommand ℕ)) → table_of file ≡ Ok table → All P (macho_parts file) → All P (parts_if table (table_parts file))
  unfolding macho_parts
  symbol_parts table is all = subst (λ (r : Result (Option (SymtabCommand ℕ)) Refusal). All P (found_parts file r)) is (back P (macho_section_parts file) (found_parts file (table_of file)) all)

-- the table that is found with the sections is the one that the commands name
pub commands_table : (section : Option (List ℕ)) (file : List ℕ) (found : CommandParts) → selected_commands section file ≡ Ok found → table_of file ≡ Ok found.table
commands_table section file found is = by_sections (sections_in section file) (table_of file) is
  where
    by_sections : (r : Result SelectedSections Refusal) (table : Result (Option (SymtabCommand ℕ)) Refusal)
        → (r >>= λ s. table >>= λ t. Ok (record { sections = s; table = t })) ≡ Ok found → table ≡ Ok found.table
    by_sections (Ok s) (Ok t) is = cc
    by_sections (Ok s) (Err why) is = absurd cc
    by_sections (Err why) table is = absurd cc
