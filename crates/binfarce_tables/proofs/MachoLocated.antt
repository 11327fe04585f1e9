-- What the function symbols of a selection of a Mach-O file are made of, by what was read of it.
use Rattle.std.proofs.Common.{◌≡◌, ◌⊎◌, ◌≢◌, ℕ, ◌≤◌, false, List, length, Option, Result, Ok, Err, inl, inr, refl, sym, ap, subst, ◌∙◌}
use Rattle.std.proofs.lemmas.Bool.{le-ltb}
use Rattle.binfarce_bytes.specs.declared.error.ParseError.{ParseError}
use Rattle.binfarce_bytes.specs.Refusal.{◌>>=◌, Refusal, refusal_of, out_of_memory}
use Rattle.binfarce_macho.specs.MachoSelection.{SelectedSections, SelectedTables, sections_in, selected_tables, selected_file_tables}
use Rattle.binfarce_macho.specs.MachoSymbols.{SymtabCommand, symbols_by, table_of}
use Rattle.binfarce_tables.specs.declared.error.ReadError.{ReadError}
use Rattle.binfarce_tables.specs.declared.error.ReadError.TheVariants.{Refused, OutOfMemory}
use Rattle.binfarce_tables.specs.Reading.{Reads}
use Rattle.binfarce_tables.specs.MachoReads.{command_bytes}
use Rattle.binfarce_tables.specs.machine.MachoPlaces.{CommandParts, selected_commands}
use Rattle.binfarce_tables.proofs.MachoPrefix.{same_sections}

-- a file, by the bytes that its commands are in
module _ (section : Option (List ℕ)) (file bytes : List ℕ) (inside : 28 ≤ length file) (are : bytes ≡ command_bytes file) where
  pub commands_same : selected_commands section bytes ≡ selected_commands section file
  commands_same = let same = same_sections file bytes inside are in rw (same.sections section, same.table) refl

  pub sections_refused : (why : Refusal) → sections_in section bytes ≡ Err why → selected_commands section file ≡ Err why
  sections_refused why at = sym commands_same ∙ rw at refl

  pub table_refused : (sections : SelectedSections) (why : Refusal) → sections_in section bytes ≡ Ok sections → table_of bytes ≡ Err why → selected_commands section file ≡ Err why
  table_refused sections why at is = sym commands_same ∙ rw (at, is) refl

  pub all_found : (found : CommandParts) → sections_in section bytes ≡ Ok found.sections → table_of bytes ≡ Ok found.table → selected_commands section file ≡ Ok found
  all_found found at is = sym commands_same ∙ rw (at, is) refl

-- what follows the commands
abbrev pub after_commands : List ℕ → CommandParts → Result SelectedTables Refusal
after_commands file found = symbols_by file found.table >>= λ symbols. Ok (record { sections = found.sections; symbols = symbols })

module _ (section : Option (List ℕ)) (file : List ℕ) where
  tables_are : selected_tables section file ≡ (selected_commands section file >>= after_commands file)
  unfolding selected_tables
  tables_are = by_steps (sections_in section file) (table_of file)
    where
      by_steps : (r : Result SelectedSections Refusal) (t : Result (Option (SymtabCommand ℕ)) Refusal)
          → (r >>= λ sections. t >>= λ table. symbols_by file table >>= λ symbols. Ok (record { sections = sections; symbols = symbols }))
          ≡ ((r >>= λ sections. t >>= λ table. Ok (record { sections = sections; table = table })) >>= after_commands file)
      by_steps (Err why) t = refl
      by_steps (Ok sections) (Err why) = refl
      by_steps (Ok sections) (Ok table) = refl

  pub steps_are : 28 ≤ length file → selected_file_tables section file ≡ (selected_commands section file >>= after_commands file)
  steps_are inside = rw (le-ltb (length file) 28 inside) tables_are

  pub from_found : (found : CommandParts) → 28 ≤ length file → selected_commands section file ≡ Ok found → selected_file_tables section file ≡ after_commands file found
  from_found found inside is = steps_are inside ∙ ap (λ (r : Result CommandParts Refusal). r >>= after_commands file) is

-- a refusal, or a failed allocation
pub with_memory : {X Y : Type 0} (view : X → Y) (answer : Result Y Refusal) (p : ParseError) (e : ReadError) → ((refusal_of p ≡ out_of_memory) × (e ≡ OutOfMemory)) ⊎ ((refusal_of p ≢ out_of_memory) × (e ≡ Refused p))
    → (refusal_of p ≢ out_of_memory → answer ≡ Err (refusal_of p)) → Reads false view answer (Err e)
with_memory view answer p e (inl memory) refused = subst (λ (error : ReadError). Reads false view answer (Err error)) (sym memory.1) tt
with_memory view answer p e (inr other) refused = subst (λ (error : ReadError). Reads false view answer (Err error)) (sym other.1) (refused other.0)
