-- What is got of a file's answer for a selection.
use Rattle.std.proofs.Common.{◌≡◌, ℕ, suc, ◌<◌, ◌≤◌, ◌^◌, List, [], ◌∷◌, Option, Some, Result, Ok, Err, length, refl, sym, ap, subst, ◌∙◌, inr, arith}
use Rattle.std.proofs.lemmas.List.Sorted.{length_permutation}
use Rattle.binfarce.specs.Refusal.{Refusal}
use Rattle.binfarce.specs.SectionEntries.{SectionEntry, SelectedSymbols}
use Rattle.binfarce.specs.declared.SymbolTable.{SymbolTable}
use Rattle.binfarce_tools.specs.Answer.{selected_answer, MemoryIn}
use Rattle.binfarce_tools.specs.Entries.{GetsIn, HoldsLeft, all_left}
use Rattle.binfarce_tools.specs.ReportWords.{outcome_of}
use Rattle.binfarce_tools.specs.Tables.{AreTablesOf}
use Rattle.binfarce_tools.specs.Writing.{EndsAs}
use Rattle.binfarce_tools.specs.declared.functions.Selected.{Selected}
use Rattle.binfarce_tools.specs.declared.report.ReportError.TheVariants.{TooLarge}
use Rattle.binfarce_tools.specs.declared.tables.Tables.{Tables}
use Rattle.binfarce_tools.proofs.Reports as reports
use Rattle.binfarce_tools.proofs.TablesGive.{names_are}
use Rattle.binfarce_figures.specs.Claimed.{AreClaimsFor, AreClaimsIn, Claimed, IsFaultOf}
use Rattle.binfarce_figures.specs.Claims.{AreClaimsOf, IsSumOf, SumFits, bytes_of, claimed_after, sum_of_sizes}
use Rattle.binfarce_figures.proofs.Once.{bytes_are}

-- entries and a size are those of a selection
abbrev pub IsListOf : Selected → List SectionEntry → Option ℕ → Type 0
IsListOf selected entries size = (entries ≡ all_left selected.functions) × (size ≡ selected.size)

same_answer : (a b : SelectedSymbols) → Path (Option (Result SelectedSymbols Refusal)) (Some (Ok a)) (Some (Ok b)) → a ≡ b
same_answer a b e = cc

module _ (which : SymbolTable) (file : List ℕ) (section : Option (List ℕ)) (selected : Selected) (entries : List SectionEntry) (size : Option ℕ) (gets : GetsIn which file section (Ok selected)) (list : IsListOf selected entries size) where
  seen : (seen : SelectedSymbols) × (selected_answer which section file ≡ Some (Ok seen)) × HoldsLeft seen selected
  seen = reports.got HoldsLeft (MemoryIn file section) (selected_answer which section file) selected gets

  bytes : bytes_of entries ≡ bytes_of seen.0.entries
  bytes = ap bytes_of (list.0 ∙ seen.2.0)

  -- what a selection's list adds is what the file's answer does
  pub got : (tables : Tables) (added : List SectionEntry) → AreTablesOf which file section tables → bytes_of entries < 2 ^ 64 → AreClaimsOf entries added → AreClaimsIn which file section (record { tables = tables; size = size; entries = added })
  got tables added are fit is = (
    seen.0,
    seen.1,
    record {
      fits = omega (arith, bytes, fit);
      added = subst (λ (es : List SectionEntry). AreClaimsOf es added) (list.0 ∙ seen.2.0) is;
      size_is = list.1 ∙ seen.2.1;
      names_are = names_are which file section tables seen.0 are seen.1;
    },
  )

  -- they are as many as the function symbols of the file's answer
  pub as_many : (answered : SelectedSymbols) → selected_answer which section file ≡ Some (Ok answered) → length entries ≡ length answered.entries
  as_many answered answer = ap length (list.0 ∙ seen.2.0) ∙ ap (λ (s : SelectedSymbols). length s.entries) (same_answer seen.0 answered (sym seen.1 ∙ answer))

  -- it has too many bytes
  pub too_large_got : 2 ^ 64 ≤ bytes_of entries → IsFaultOf which file section TooLarge
  too_large_got over =
      let not_fits : ¬ (SumFits seen.0) = λ fit. absurd (omega (arith, bytes, fit, over)) in
      let Q : Option (Result SelectedSymbols Refusal) → Type 0 = λ a. EndsAs SumFits (MemoryIn file section) a (outcome_of (Err TooLarge)) in
      subst Q (sym seen.1) (inr (inr (not_fits, refl)))

-- claims are those of the one answer that a file has
pub claims_for : (which : SymbolTable) (file : List ℕ) (section : Option (List ℕ)) (claims : Claimed) (selected : SelectedSymbols) → AreClaimsIn which file section claims → selected_answer which section file ≡ Some (Ok selected) → AreClaimsFor selected claims
claims_for which file section claims selected got answer = subst (λ (s : SelectedSymbols). AreClaimsFor s claims) (same_answer got.0 selected (sym got.1 ∙ answer)) got.2

-- their sum is that of the answer
pub sum_in : (selected : SelectedSymbols) (claims : Claimed) → AreClaimsFor selected claims → IsSumOf selected (sum_of_sizes claims.entries)
sum_in selected claims are = bytes_are selected.entries claims.entries are.added

claimed_length : (before entries : List SectionEntry) → length (claimed_after before entries) ≡ length entries
claimed_length before [] = refl
claimed_length before (e ∷ others) = ap suc (claimed_length (e ∷ before) others)

-- they are as many as its function symbols
pub count_in : (selected : SelectedSymbols) (claims : Claimed) → AreClaimsFor selected claims → length claims.entries ≡ length selected.entries
count_in selected claims are =
    let (sorted, by, is) = are.added in ap length is ∙ claimed_length [] sorted ∙ length_permutation selected.entries sorted by.same
