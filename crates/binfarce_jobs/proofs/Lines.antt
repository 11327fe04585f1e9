-- How the lines of standard input are answered: where the entries of a file can be had, and where they can't.
use Rattle.std.proofs.Common.{◌≡◌, ◌∙◌, inl, inr, ap, ℕ, Bool, false, List, length, Option, Some, None, Result, Ok, Err, IsErrAnd, refl, sym, subst}
use Rattle.std.proofs.KnownBytes.{Appends-nil, Consumes-nil}
use Rattle.binfarce.specs.Refusal.{Refusal}
use Rattle.binfarce.specs.SectionEntries.{SelectedSymbols}
use Rattle.binfarce.specs.Symbol.{Entry}
use Rattle.binfarce_addresses.specs.declared.lookup.Lookup.{Lookup}
use Rattle.binfarce_addresses.specs.PlacesViews.{IsMadeOf}
use Rattle.binfarce_addresses.specs.declared.counts.Counts.{Counts}
use Rattle.binfarce_addresses.specs.Stream.{Streams}
use Rattle.binfarce_addresses.specs.declared.stream.StreamError.{StreamError}
use Rattle.binfarce_tools.specs.ListWords as list
use Rattle.binfarce_tools.specs.declared.list.ListError.{ListError}
use Rattle.binfarce_tools.specs.declared.list.ListError.TheVariants as errors
use Rattle.binfarce_jobs.specs.At.{AnswersInput, HasPlaces, IsUntouched, lines_end}
use Rattle.binfarce_io.specs.Faults.{failure, list_fault}
use Rattle.binfarce_jobs.specs.declared.at.Answered.{Answered}
use Rattle.binfarce_io.specs.declared.fault.Fault.{Fault}
use Rattle.binfarce_io.specs.declared.fault.Fault.TheVariants.{Stream}

-- lines were answered by the entries of a file
pub answered_lines : (share : Bool) (memory : Result SelectedSymbols Refusal → Type 0) (answer : Option (Result SelectedSymbols Refusal)) (entries : List Entry) (lookup : Lookup) (given left old new : Option (List ℕ)) (ended : Result Counts StreamError) → share ≡ false → IsMadeOf memory answer (Ok entries)
    → Streams entries lookup given left old new ended → AnswersInput share memory answer lookup given left old new (lines_end (length entries) ended)
answered_lines share memory None entries lookup given left old new ended alone made streams = absurd made
answered_lines share memory (Some (Err refusal)) entries lookup given left old new ended alone made streams = absurd made
answered_lines share memory (Some (Ok listed)) entries lookup given left old new ended alone made streams =
    let P : List Entry → Type 0 = λ es. Streams es lookup given left old new ended in inr (alone, listed, ended, refl, subst P made streams, ap (λ (es : List Entry). lines_end (length es) ended) made)

pub answered_less : (share : Bool) (memory : Result SelectedSymbols Refusal → Type 0) (answer : Option (Result SelectedSymbols Refusal)) (entries : List Entry) (lookup : Lookup) (given left old new : Option (List ℕ)) (e : StreamError) (result : Result Answered Fault) → share ≡ false → IsMadeOf memory answer (Ok entries)
    → Streams entries lookup given left old new (Err e) → IsErrAnd result (λ x. x ≡ Stream e) → AnswersInput share memory answer lookup given left old new result
answered_less share memory answer entries lookup given left old new e (Ok x) alone made streams is = absurd is
answered_less share memory answer entries lookup given left old new e (Err x) alone made streams is =
    let P : Fault → Type 0 = λ f. AnswersInput share memory answer lookup given left old new (Err f) in subst P (sym is) (answered_lines share memory answer entries lookup given left old new (Err e) alone made streams)

untouched : (given old : Option (List ℕ)) → IsUntouched given given old old
untouched given old = (Consumes-nil given, Appends-nil old)

list_failure : (e : ListError) → failure (list_fault e) ≡ list.outcome_of (Err e)
list_failure errors.Unknown = refl
list_failure (errors.Parse e) = refl
list_failure errors.OutOfMemory = refl
list_failure errors.Write = refl

-- nothing was answered of a file whose places can't be had
no_places : (share : Bool) (memory : Result SelectedSymbols Refusal → Type 0) (answer : Option (Result SelectedSymbols Refusal)) (lookup : Lookup) (given old : Option (List ℕ)) (e : Fault) → HasPlaces share memory answer (Err e)
    → AnswersInput share memory answer lookup given given old old (Err e)
no_places share memory answer lookup given old e (inl (shared, is)) = inl (e, refl, inl (shared, is), untouched given old)
no_places share memory answer lookup given old e (inr (error, made, is)) = inl (e, refl, inr (error, made, ap failure is ∙ list_failure error), untouched given old)

pub without_places : (share : Bool) (memory : Result SelectedSymbols Refusal → Type 0) (answer : Option (Result SelectedSymbols Refusal)) (lookup : Lookup) (given old : Option (List ℕ)) (e : Fault) (result : Result Answered Fault) → HasPlaces share memory answer (Err e) → IsErrAnd result (λ x. x ≡ e)
    → AnswersInput share memory answer lookup given given old old result
without_places share memory answer lookup given old e (Ok x) has is = absurd is
without_places share memory answer lookup given old e (Err x) has is =
    let P : Fault → Type 0 = λ f. AnswersInput share memory answer lookup given given old old (Err f) in subst P (sym is) (no_places share memory answer lookup given old e has)
