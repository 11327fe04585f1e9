-- How a call of another crate ended is how the work that makes it ended.
use Rattle.std.proofs.Common.{◌≡◌, inl, inr, Option, Result, Ok, Err, IsErrAnd, refl, sym, subst}
use Rattle.binfarce.specs.Refusal.{Refusal, refusal_of}
use Rattle.binfarce.specs.SectionEntries.{SelectedSymbols}
use Rattle.binfarce_tables.specs.declared.error.ReadError.{ReadError}
use Rattle.binfarce_tables.specs.declared.error.ReadError.TheVariants.{Refused, Unreadable, OutOfMemory}
use Rattle.binfarce_tools.specs.ListWords as list
use Rattle.binfarce_tools.specs.ReportWords as report
use Rattle.binfarce_tools.specs.Tables.{ReadsAs}
use Rattle.binfarce_tools.specs.Writing.{Outcome, EndsAs, ProgramEndsAs, refused}
use Rattle.binfarce_tools.specs.declared.list.ListError.{ListError}
use Rattle.binfarce_tools.specs.declared.list.ListError.TheVariants as listing
use Rattle.binfarce_tools.specs.declared.report.ReportError.{ReportError}
use Rattle.binfarce_io.specs.Faults.{failure, list_fault, outcome_of, read_fault}
use Rattle.binfarce_io.specs.declared.fault.Fault.{Fault}
use Rattle.binfarce_io.specs.declared.fault.Fault.TheVariants.{Report}
use Rattle.binfarce_jobs.specs.declared.show.Kind.{Kind}
use Rattle.binfarce_jobs.specs.declared.show.Seen.{Seen}

list_ended : (e : ListError) (P : Outcome → Type 0) → P (list.outcome_of (Err e)) → P (failure (list_fault e))
list_ended listing.Unknown P h = h
list_ended (listing.Parse e) P h = h
list_ended listing.OutOfMemory P h = h
list_ended listing.Write P h = h

pub of_list : {X : Type 0} (e : ListError) (result : Result X Fault) (P : Outcome → Type 0) → IsErrAnd result (λ f. f ≡ list_fault e) → P (list.outcome_of (Err e)) → P (outcome_of result)
of_list e (Ok x) P is h = absurd is
of_list e (Err fault) P is h = subst (λ (f : Fault). P (failure f)) (sym is) (list_ended e P h)

pub of_report : {X : Type 0} (e : ReportError) (result : Result X Fault) (P : Outcome → Type 0) → IsErrAnd result (λ f. f ≡ Report e) → P (report.outcome_of (Err e)) → P (outcome_of result)
of_report e (Ok x) P is h = absurd is
of_report e (Err fault) P is h = subst (λ (f : Fault). P (failure f)) (sym is) h

-- the same, where the call is the one for this kind
pub list_in : {X : Type 0} (P : Kind → Outcome → Type 0) (kind found : Kind) → kind ≡ found → (e : ListError) (result : Result X Fault) → IsErrAnd result (λ f. f ≡ list_fault e) → P found (list.outcome_of (Err e)) → P kind (outcome_of result)
list_in P kind found is e result err h = of_list e result (λ (o : Outcome). P kind o) err (subst (λ (k : Kind). P k (list.outcome_of (Err e))) (sym is) h)

pub report_in : {X : Type 0} (P : Kind → Outcome → Type 0) (kind found : Kind) → kind ≡ found → (e : ReportError) (result : Result X Fault) → IsErrAnd result (λ f. f ≡ Report e) → P found (report.outcome_of (Err e)) → P kind (outcome_of result)
report_in P kind found is e result err h = of_report e result (λ (o : Outcome). P kind o) err (subst (λ (k : Kind). P k (report.outcome_of (Err e))) (sym is) h)

-- the tables weren't read
pub unread : (MayFail : Type 0) {T : Type 0} (AreTables : T → Type 0) (Fits : SelectedSymbols → Type 0) (memory : Result SelectedSymbols Refusal → Type 0) (answer : Option (Result SelectedSymbols Refusal)) (e : ReadError) (result : Result Seen Fault)
    → ReadsAs AreTables MayFail answer (Err e) → IsErrAnd result (λ f. f ≡ read_fault e) → ProgramEndsAs MayFail Fits memory answer (outcome_of result)
unread MayFail AreTables Fits memory answer e (Ok x) reads is = absurd is
unread MayFail AreTables Fits memory answer e (Err f) reads is = subst (λ (f : Fault). ProgramEndsAs MayFail Fits memory answer (failure f)) (sym is) (by_error e reads)
  where
    by_error : (e : ReadError) → ReadsAs AreTables MayFail answer (Err e) → ProgramEndsAs MayFail Fits memory answer (failure (read_fault e))
    by_error (Refused p) reads = inr (inr (subst (λ (a : Option (Result SelectedSymbols Refusal)). EndsAs Fits memory a (refused (refusal_of p))) (sym reads) (inl refl)))
    by_error Unreadable reads = inl (reads, refl)
    by_error OutOfMemory reads = inr (inl refl)
