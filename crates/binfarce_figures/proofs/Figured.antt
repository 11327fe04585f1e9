-- What is taken of a text that shows what a selection's function symbols add.
use Rattle.std.proofs.Common.{◌≡◌, ◌⊎◌, ℕ, List, Option, Some, Result, Ok, Err, String, string_bytes, IfOk, inl, inr, refl, ap, subst, sym}
use Rattle.std.specs.Global.{Global}
use Rattle.std.specs.Prelude.{IfErr}
use Rattle.std.specs.Result.{IsErrAnd}
use Rattle.binfarce.specs.Refusal.{Refusal}
use Rattle.binfarce.specs.SectionEntries.{SelectedSymbols}
use Rattle.binfarce.specs.declared.SymbolTable.{SymbolTable}
use Rattle.binfarce_tools.specs.Answer.{MemoryIn, selected_answer}
use Rattle.binfarce_tools.specs.Report.{Share}
use Rattle.binfarce_tools.specs.ReportWords.{outcome_of}
use Rattle.binfarce_tools.specs.Writing.{EndsAs, Outcome, Takes, WritesMade}
use Rattle.binfarce_tools.specs.declared.report.ReportError.{ReportError}
use Rattle.binfarce_tools.specs.declared.report.ReportError.TheVariants.{OutOfMemory, Write}
use Rattle.binfarce_figures.specs.declared.key.Grouping.{Grouping}
use Rattle.binfarce_figures.specs.Claimed.{AreClaimsIn, Claimed}
use Rattle.binfarce_figures.specs.Claims.{SumFits}
use Rattle.binfarce_figures.specs.Figures.{IsShownBy, ended}
use Rattle.binfarce_figures.specs.machine.Shares.{AreSharesWith}
use Rattle.binfarce_tools.proofs.Lines.{nothing}
use Rattle.binfarce_tools.proofs.Reports.{takes}
use Rattle.binfarce_figures.proofs.Summed.{shares_in}

module _ (grouping : Grouping) (Shows : Option ℕ → List Share → List ℕ → Type 0) (which : SymbolTable) (file : List ℕ) (section : Option (List ℕ)) (claims : Claimed) where
  -- text shows what these add
  abbrev IsTextWith : List ℕ → Type 0
  IsTextWith text = (shares : List Share) × AreSharesWith grouping claims shares × Shows claims.size shares text

  due : {E : Type 0} (got : AreClaimsIn which file section claims) (made : Result (String Global) E) → IfOk made (λ t. IsTextWith (string_bytes t)) → IfOk made (λ t. IsShownBy grouping Shows got.0 (string_bytes t))
  due got (Err e) is = is
  due got (Ok t) (shares, are, text) = (shares, shares_in grouping got.0 claims shares got.2 are, subst (λ (n : Option ℕ). Shows n shares (string_bytes t)) got.2.size_is text)

  pub figured : {E : Type 0} (made : Result (String Global) E) (old new : Option (List ℕ)) (o : Outcome) → AreClaimsIn which file section claims → IfOk made (λ t. IsTextWith (string_bytes t)) → WritesMade made old new o
      → Takes (IsShownBy grouping Shows) (selected_answer which section file) old new o
  figured made old new o got is wrote = takes (selected_answer which section file) got.0 got.1 (IsShownBy grouping Shows) made old new o (due got made is) wrote

-- nothing is taken if an allocation failed
pub none_taken : {A : Type 0} (IsText : SelectedSymbols → List ℕ → Type 0) (answer : Option (Result SelectedSymbols Refusal)) (old : Option (List ℕ)) (result : Result A ReportError) → IsErrAnd result (λ f. f ≡ OutOfMemory) → Takes IsText answer old old (outcome_of (ended result))
none_taken IsText answer old (Ok value) is = absurd is
none_taken IsText answer old (Err f) is = subst (λ (e : ReportError). Takes IsText answer old old (outcome_of (Err e))) (sym is) (nothing old)

-- a result that passes an error on ends as it
pub passed_on : {A E : Type 0} (outcome : Result (Unit {0}) E → Outcome) (result : Result A E) (e : E) → IsErrAnd result (λ f. f ≡ e) → outcome (Err e) ≡ outcome (ended result)
passed_on outcome (Ok value) e is = absurd is
passed_on {E = E} outcome (Err f) e is = ap (λ (x : E). outcome (Err x)) (sym is)

-- a call that writes what claims show ends as their file's answer says
pub ends_in : {A : Type 0} (which : SymbolTable) (file : List ℕ) (section : Option (List ℕ)) (claims : Claimed) (result : Result A ReportError) → AreClaimsIn which file section claims → IfErr result (λ e. (e ≡ OutOfMemory) ⊎ (e ≡ Write))
    → EndsAs SumFits (MemoryIn file section) (selected_answer which section file) (outcome_of (ended result))
ends_in which file section claims result got failed =
    subst (λ (a : Option (Result SelectedSymbols Refusal)). EndsAs SumFits (MemoryIn file section) a (outcome_of (ended result))) (sym got.1) (by_result result failed)
  where
    by_result : {A : Type 0} (result : Result A ReportError) → IfErr result (λ e. (e ≡ OutOfMemory) ⊎ (e ≡ Write)) → EndsAs SumFits (MemoryIn file section) (Some (Ok got.0)) (outcome_of (ended result))
    by_result (Ok value) failed = inr (inl (got.2.fits, inl refl))
    by_result (Err e) (inl is) = inl (ap (λ (x : ReportError). outcome_of (Err x)) is)
    by_result (Err e) (inr is) = inr (inl (got.2.fits, inr (ap (λ (x : ReportError). outcome_of (Err x)) is)))
