-- How a call ended that failed before its first write.
use Rattle.std.proofs.Common.{◌≡◌, ◌≢◌, ◌∙◌, inl, inr, Bool, true, List, Option, Some, None, Result, Ok, Err, IsErrAnd, refl, sym, ap, subst}
use Rattle.binfarce.specs.Refusal.{Refusal}
use Rattle.binfarce.specs.SectionEntries.{SelectedSymbols}
use Rattle.binfarce.specs.Symbol.{Entry}
use Rattle.binfarce_addresses.specs.Lookup.{places_in}
use Rattle.binfarce_addresses.specs.PlacesViews.{IsMadeOf}
use Rattle.binfarce_tools.specs.Answer.{addresses_are_shared}
use Rattle.binfarce_tools.specs.declared.list.ListError.TheVariants as listing
use Rattle.binfarce_tools.specs.Writing.{Fails, Outcome, written, write_failed, unknown_format, refused, no_memory, too_large, unreadable, wrong_usage}
use Rattle.binfarce_jobs.specs.At.{HasPlaces, IsShared}
use Rattle.binfarce_io.specs.Faults.{failure, list_fault, outcome_of}
use Rattle.binfarce_jobs.specs.declared.at.Answered.{Answered}
use Rattle.binfarce_io.specs.declared.fault.Fault.{Fault}

-- an outcome other than a failed write leaves it as it was that a write has failed
still : (failed : Bool) (o : Outcome) → o ≢ write_failed → Fails failed failed o
still failed write_failed other = absurd (other refl)
still failed written other = refl
still failed unknown_format other = refl
still failed (refused refusal) other = refl
still failed no_memory other = refl
still failed too_large other = refl
still failed unreadable other = refl
still failed wrong_usage other = refl

pub still_so : {X : Type 0} (failed : Bool) (e : Fault) (result : Result X Fault) → IsErrAnd result (λ f. f ≡ e) → failure e ≢ write_failed → Fails failed failed (outcome_of result)
still_so failed e (Ok x) is other = absurd is
still_so failed e (Err f) is other = subst (λ (f : Fault). Fails failed failed (failure f)) (sym is) (still failed (failure e) other)

-- sections that share addresses are those of a file that is answered
shared_answer : (answer : Option (Result SelectedSymbols Refusal)) → addresses_are_shared answer ≡ true → (seen : SelectedSymbols) × (answer ≡ Some (Ok seen))
shared_answer None shared = absurd cc
shared_answer (Some (Err refusal)) shared = absurd cc
shared_answer (Some (Ok seen)) shared = (seen, refl)

-- so their places aren't had
pub shared_places : (memory : Result SelectedSymbols Refusal → Type 0) (answer : Option (Result SelectedSymbols Refusal)) (e : Fault) (result : Result Answered Fault)
    → addresses_are_shared answer ≡ true → HasPlaces (addresses_are_shared answer) memory answer (Err e) → IsErrAnd result (λ f. f ≡ e) → IsShared result
shared_places memory answer e (Ok x) shared has is = absurd is
shared_places memory answer e (Err f) shared (inl (share, same)) is = inl (is ∙ same)
shared_places memory answer e (Err f) shared (inr (error, made, same)) is =
    let answered = shared_answer answer shared in
    let full : error ≡ listing.OutOfMemory = subst (λ (answer : Option (Result SelectedSymbols Refusal)). IsMadeOf memory answer (Err error)) answered.1 made in
    inr (ap failure (is ∙ same ∙ ap list_fault full))

-- the entries that are made of a file's answer are its places
pub made_of : (memory : Result SelectedSymbols Refusal → Type 0) (answer : Option (Result SelectedSymbols Refusal)) (entries : List Entry) (selected : SelectedSymbols) → IsMadeOf memory answer (Ok entries) → answer ≡ Some (Ok selected) → entries ≡ places_in selected
made_of memory None entries selected made is = absurd made
made_of memory (Some (Err refusal)) entries selected made is = absurd made
made_of memory (Some (Ok other)) entries selected made is = made ∙ ap places_in (same is)
  where
    same : {a b : SelectedSymbols} → Path (Option (Result SelectedSymbols Refusal)) (Some (Ok a)) (Some (Ok b)) → a ≡ b
    same is = cc
