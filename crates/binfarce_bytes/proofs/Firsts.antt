-- What a search by a callback finds, where the callback computes a test.
use Rattle.std.proofs.Common.{◌≡◌, Bool, true, false, List, [], ◌∷◌, ◌++◌, All, Option, Some, None, Result, Ok, Err, refl, sym, ap, subst, ◌∙◌}
use Rattle.std.specs.Prelude.{find}
use Rattle.std.specs.Option.{option_map}
use Rattle.std.proofs.lemmas.List.Elements.{All-head, All-tail}
use Rattle.binfarce_bytes.specs.Refusal.{Refusal, Gives}
use Rattle.binfarce_bytes.specs.Walk.{Walk, Answered, IsFirstAccepted, NoneAccepted, FirstAccepted, first, found_or_end, end_of}

-- the callback's answer is the test of what it is handed
abbrev pub Computes : {T S : Type 0} → (T → S) → (T → Bool → Type 0) → (S → Bool) → Type 0
Computes {T} seen post test = (value : T) (answer : Bool) → post value answer → answer ≡ test (seen value)

refused_one : {T S : Type 0} (seen : T → S) (post : T → Bool → Type 0) (test : S → Bool) (s : S) → Computes seen post test → Answered seen post false s → test s ≡ false
refused_one seen post test s computes h = ap test (sym h.1) ∙ sym (computes h.0 false h.2)

find_past_refused : {T S : Type 0} (seen : T → S) (post : T → Bool → Type 0) (test : S → Bool) (xs ys : List S) → Computes seen post test
    → All (Answered seen post false) xs → find test (xs ++ ys) ≡ find test ys
find_past_refused seen post test [] ys computes all = refl
find_past_refused seen post test (x ∷ xs) ys computes all =
    rw (refused_one seen post test x computes (All-head (Answered seen post false) x xs all))
    (find_past_refused seen post test xs ys computes (All-tail (Answered seen post false) x xs all))

find_none : {T S : Type 0} (seen : T → S) (post : T → Bool → Type 0) (test : S → Bool) (xs : List S) → Computes seen post test
    → All (Answered seen post false) xs → find test xs ≡ None
find_none seen post test [] computes all = refl
find_none seen post test (x ∷ xs) computes all =
    rw (refused_one seen post test x computes (All-head (Answered seen post false) x xs all))
    (find_none seen post test xs computes (All-tail (Answered seen post false) x xs all))

-- the search finds the first section that passes the test
pub first_is : {T S E : Type 0} (why : E → Refusal) (seen : T → S) (post : T → Bool → Type 0) (test : S → Bool) (sections : Walk S) (result : Result (Option T) E)
    → Computes seen post test → FirstAccepted why seen post sections result → Gives why (option_map seen) (first test sections) result
first_is why seen post test sections (Ok (Some value)) computes f =
    let found : find test sections.items ≡ Some (seen value) =
    ap (find test) f.occurs ∙ find_past_refused seen post test f.before (seen value ∷ f.after) computes f.refused ∙ rw (← computes value true f.accepted) refl in
    ap (λ (o : Option _). found_or_end o sections.refusal) found
first_is why seen post test sections (Ok None) computes f =
    ap (λ (o : Option _). found_or_end o sections.refusal) (find_none seen post test sections.items computes f.refused) ∙ ap end_of f.end_is
first_is why seen post test sections (Err e) computes f =
    ap (λ (o : Option _). found_or_end o sections.refusal) (find_none seen post test sections.items computes f.refused) ∙ ap end_of f.end_is

-- without an error, the view of errors doesn't matter
pub retold : {T S E F : Type 0} (why : E → Refusal) (other : F → Refusal) (seen : T → S) (post : T → Bool → Type 0) (sections same : Walk S) (found : Option T)
    → sections ≡ same → FirstAccepted why seen post sections (Ok found) → FirstAccepted other seen post same (Ok found)
retold {T} {S} {E} {F} why other seen post sections same (Some value) e f = subst (λ (w : Walk S). IsFirstAccepted seen post w value) e f
retold {T} {S} {E} {F} why other seen post sections same None e f = subst (λ (w : Walk S). NoneAccepted seen post w None) e f
