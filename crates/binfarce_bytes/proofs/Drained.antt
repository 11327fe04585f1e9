-- What an iterator gave.
use Rattle.std.proofs.Common.{◌≡◌, List, [], ◌∷◌, map, Option, Some, sym, ap, ◌∙◌}
use Rattle.std.specs.declared.iter.Copied.{Copied}
use Rattle.std.specs.declared.slice.Iter.{Iter}
use Rattle.std.specs.Iterator.{Yields, YieldsFirstBy, Drains}
use Rattle.std.specs.Iterator.Adapters.{copied_source, copied_steps}
use Rattle.std.specs.Slice.Iter.{iter_rest, iter_steps}
use Rattle.std.proofs.lemmas.Iterator.{items_from_drains}
use Rattle.std.proofs.lemmas.Iterator.Consumers.{YieldsList-from_copied, YieldsList-from_shown}
use Rattle.std.proofs.lemmas.List.{map-id}

-- an iterator that gives something at some point gives something at first
pub gives_at_first : {S A : Type 0} (steps : S → Option A → S → Type 0) (s t u : S) (xs : List A) (x : A) → Yields steps s xs t → steps t (Some x) u → (first : A) × (after : S) × steps s (Some first) after
gives_at_first steps s t u [] x same step = (x, u, rw same step)
gives_at_first steps s t u (y ∷ xs) x yields step = (y, yields.0, yields.1)

-- what an iterator gave, of which a list is left, is that list
pub drained : {S A B : Type 0} (view : A → B) (rest : S → List B) (s : S) (given : List A) → Drains (YieldsFirstBy view rest) s given → map view given ≡ rest s
drained view rest s [] d = sym (ap rest d.1.1 ∙ d.1.2.0)
drained {B = B} view rest s (x ∷ given) d =
    let yields = d.1.1 in
    ap (λ (ys : List B). view x ∷ ys) (drained view rest yields.0 given (d.0, (d.1.0, yields.2, d.1.2))) ∙ sym yields.1

-- what comes of a slice's copies is the slice
pub copies_are : {A : Type 0} (s : Copied (Iter A)) (given : List A) → Drains (copied_steps iter_steps) s given → given ≡ iter_rest (copied_source s)
copies_are s given d =
    sym (map-id given)
    ∙ items_from_drains given (d.1.0, d.1.1, λ _. (d.0, d.1.2)) (YieldsList-from_copied (YieldsList-from_shown iter_steps (λ y. y.now) iter_rest (λ t u h. h.0) (λ t x u h. h) (copied_source s)))
