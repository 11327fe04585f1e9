-- Files with code and without function symbols.
use Rattle.std.proofs.Common.{◌≡◌, ◌∙◌, ◌&&◌, ◌||◌, Bool, true, false, ℕ, List, Option, Some, Result, Ok, Err, if◌then◌else◌, refl, sym, ap}
use Rattle.binfarce_bytes.specs.Format.{format_of}
use Rattle.binfarce_bytes.specs.Refusal.{Refusal, symbols_section_is_missing}
use Rattle.binfarce_bytes.specs.declared.format.Format.{Format}
use Rattle.binfarce_bytes.specs.declared.format.Format.TheVariants as formats
use Rattle.binfarce.specs.SectionEntries.{SelectedSymbols}
use Rattle.binfarce_sections.specs.Section.{sections_of}
use Rattle.binfarce_tools.specs.Answer.{selected_answer}
use Rattle.binfarce_tools.specs.Tables.{AreTablesOf, is_whole}
use Rattle.binfarce_tools.specs.declared.SymbolTable.{SymbolTable}
use Rattle.binfarce_tools.specs.declared.tables.Tables.{Tables}
use Rattle.binfarce_tools.specs.declared.tables.Tables.TheVariants as variants
use Rattle.binfarce_jobs.specs.Code.{code_in, has_code}
use Rattle.binfarce_jobs.specs.Show.{answer_taken, answer_unless, answer_with, has_table, is_bare, is_taken, no_functions}

-- a file of an unknown format has no code
no_code : (file : List ℕ) → format_of file ≡ formats.Unknown → has_code file ≡ false
unfolding sections_of
no_code file is = ap (λ (f : Format). code_in (sections_of f file)) is

and_false : (a b c : Bool) → c ≡ false → (a && (b && c)) ≡ false
and_false true true c is = is
and_false true false c is = refl
and_false false b c is = refl

module _ (which : SymbolTable) (file : List ℕ) (section : Option (List ℕ)) where
  refused_by : (answer : Option (Result SelectedSymbols Refusal)) (selected : SelectedSymbols) (bare : Bool) → answer ≡ Some (Ok selected) → bare ≡ true → answer_unless bare which answer ≡ Some (Err (no_functions which))
  refused_by answer selected bare is are = ap (λ (b : Bool). answer_unless b which answer) are ∙ ap (answer_unless true which) is

  -- tables that were read are those of an answer, or of a file that has no code
  pub refused : (tables : Tables) → AreTablesOf which file section tables → is_whole tables ≡ false → is_bare which file section ≡ true
      → answer_unless (is_bare which file section) which (selected_answer which section file) ≡ Some (Err (no_functions which))
  unfolding AreTablesOf
  refused (variants.Elf parts) are whole bare = refused_by _ _ _ are bare
  refused (variants.Macho parts) are whole bare = refused_by _ _ _ are.1 bare
  refused (variants.Pe parts) are whole bare = refused_by _ _ _ are.1 bare
  refused variants.Unknown are whole bare =
      let none : is_bare which file section ≡ false = and_false _ _ _ (no_code file are) in
      let never : true ≡ false = sym bare ∙ none in absurd cc
  refused (variants.Whole bytes named) are whole bare = absurd cc
  refused (variants.Made functions size versions) are whole bare = refused_by _ _ _ are.1 bare

same_bool : (a b : Bool) → Path (Result Bool Refusal) (Ok a) (Ok b) → a ≡ b
same_bool a b is = cc

same_format : (a b : Format) → Path (Result Format Refusal) (Ok a) (Ok b) → a ≡ b
same_format a b is = cc

-- such a file is refused
module _ (which : SymbolTable) (file : List ℕ) (section : Option (List ℕ)) (format : Format) (tables : Tables) where
  pub refused_for : (taken has bare : Bool) (refusal : Refusal) → Path (Result Format Refusal) (Ok (format_of file)) (Ok format) → taken ≡ is_taken section format → taken ≡ true → has_table which format file ≡ Ok has → has ≡ true
      → (format ≡ format_of file → AreTablesOf which file section tables) → is_whole tables ≡ false → (AreTablesOf which file section tables → Path (Result Bool Refusal) (Ok (is_bare which file section)) (Ok bare)) → bare ≡ true → refusal ≡ no_functions which
      → answer_taken which file section ≡ Some (Err refusal)
  refused_for taken has bare refusal read takes on table there are whole found lacks why =
      let is = same_format (format_of file) format read in
      let own = are (sym is) in
      let none : is_bare which file section ≡ true = same_bool (is_bare which file section) bare (found own) ∙ lacks in
      let answer = answer_unless (is_bare which file section) which (selected_answer which section file) in
      ap (λ (b : Bool). if b then answer_with (has_table which (format_of file) file) answer else Some (Err symbols_section_is_missing)) (ap (is_taken section) is ∙ sym takes ∙ on)
      ∙ ap (λ (h : Result Bool Refusal). answer_with h answer) (ap (λ (f : Format). has_table which f file) is ∙ table ∙ ap (λ (b : Bool). Ok b) there)
      ∙ refused which file section tables own whole none ∙ ap (λ (r : Refusal). Some (Err r)) (sym why)

-- either of two tests
pub or_first : (a b : Bool) → a ≡ true → (a || b) ≡ true
or_first true b is = refl
or_first false b is = absurd cc

pub or_second : (a b : Bool) → b ≡ true → (a || b) ≡ true
or_second true b is = refl
or_second false b is = is

pub and_first : (a b : Bool) → a ≡ false → (a && b) ≡ false
and_first true b is = absurd cc
and_first false b is = refl

pub and_second : (a b : Bool) → b ≡ false → (a && b) ≡ false
and_second true b is = is
and_second false b is = refl
