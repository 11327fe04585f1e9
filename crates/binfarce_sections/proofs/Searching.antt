-- The search for the first section of a name, and what a call returns that can't go on.
use Rattle.std.proofs.Common.{◌≡◌, ℕ, List, Option, Some, None, Result, Ok, Err, refl, sym, ap, subst}
use Rattle.std.specs.Result.{IsErrAnd}
use Rattle.binfarce.specs.Refusal.{refusal_of}
use Rattle.binfarce.specs.Walk.{Walk}
use Rattle.binfarce_sections.specs.declared.error.SectionError.{SectionError}
use Rattle.binfarce_sections.specs.declared.error.SectionError.TheVariants.{Parse, OutOfMemory}
use Rattle.binfarce_sections.specs.Named.{bytes_found, bytes_named, unknown_format, refused}
use Rattle.binfarce_sections.specs.Section.{Section}
use Rattle.binfarce_rows.specs.Json.{Style}
use Rattle.binfarce_sections.specs.Results.{Hands, TakesLines}
use Rattle.binfarce_sections.specs.declared.sections.Sections.{Sections}
use Rattle.binfarce_sections.specs.Views.{Opens}
use Rattle.binfarce_sections.specs.machine.Found.{Finds}
use Rattle.binfarce_tools.proofs.Lines.{nothing}

found_not : {X : Type 0} (view : X → List ℕ) (walk : Option (Walk Section)) (file word : List ℕ) (e : SectionError) → Finds walk word (Err e) → Hands view (bytes_named walk file word) (Err e)
unfolding bytes_named
found_not view None file word e is = rw is (unknown_format, refl, refl)
found_not view (Some walk) file word (Parse e) is = (refused (refusal_of e), ap (bytes_found file) is, refl)
found_not view (Some walk) file word e is = absurd is

-- where no section is found, why is handed on
pub hands_on : {X : Type 0} (view : X → List ℕ) (walk : Option (Walk Section)) (file word : List ℕ) (e : SectionError) (result : Result X SectionError)
    → Finds walk word (Err e) → IsErrAnd result (λ f. f ≡ e) → Hands view (bytes_named walk file word) result
hands_on view walk file word e (Ok x) found is = absurd is
hands_on {X = X} view walk file word e (Err f) found is =
    let P : SectionError → Type 0 = λ (g : SectionError). Hands {X = X} view (bytes_named walk file word) (Err g) in
    subst P (sym is) (found_not view walk file word e found)

-- if an allocation fails before the first write, nothing was taken
pub untaken : (style : Style) (walk : Option (Walk Section)) (sections : Sections) (taken : Option (List ℕ)) (result : Result (Unit {0}) SectionError)
    → Opens walk (Ok sections) → IsErrAnd result (λ f. f ≡ OutOfMemory) → TakesLines style walk taken taken result
untaken style None sections taken result opened is = absurd opened
untaken style (Some walk) sections taken (Ok x) opened is = absurd is
untaken style (Some walk) sections taken (Err e) opened is = subst (λ (f : SectionError). TakesLines style (Some walk) taken taken (Err f)) (sym is) (nothing taken)
