-- Items that come to something one after the other, item after item.
use Rattle.std.proofs.Common.{◌≡◌, ◌∙◌, inl, inr, Bool, true, false, ◌&&◌, ◌||◌, List, [], ◌∷◌, ◌++◌, Result, Ok, Err, refl, ap, ap₂, subst}
use Rattle.binfarce_jobs.specs.Files.{State}
use Rattle.binfarce_jobs.specs.Limit.{and_then}
use Rattle.binfarce_io.specs.declared.fault.Fault.{Fault}
use Rattle.binfarce_jobs.specs.declared.limit.Verdict.{Verdict}
use Rattle.binfarce_calls.specs.Sections.{InTurn, done}

and_assoc : (a b c : Bool) → ((a && b) && c) ≡ (a && (b && c))
and_assoc true b c = refl
and_assoc false b c = refl

or_assoc : (a b c : Bool) → ((a || b) || c) ≡ (a || (b || c))
or_assoc true b c = refl
or_assoc false b c = refl

and_true : (a : Bool) → (true && a) ≡ (a && true)
and_true true = refl
and_true false = refl

or_false : (a : Bool) → (false || a) ≡ (a || false)
or_false true = refl
or_false false = refl

verdict : (a b : Verdict) → a.is_done ≡ b.is_done → a.is_above ≡ b.is_above → a ≡ b
verdict a b done above = ap₂ (λ (x y : Bool). record { is_done = x; is_above = y }) done above

assoc : (a b c : Verdict) → and_then (and_then a b) c ≡ and_then a (and_then b c)
assoc a b c = verdict (and_then (and_then a b) c) (and_then a (and_then b c)) (and_assoc a.is_done b.is_done c.is_done) (or_assoc a.is_above b.is_above c.is_above)

none : (a : Verdict) → and_then done a ≡ and_then a done
none a = verdict (and_then done a) (and_then a done) (and_true a.is_done) (or_false a.is_above)

module _ {X : Type 0} (One : X → (old new : State) → Result Verdict Fault → Type 0) where
  -- one item more
  pub one_more : (xs : List X) (x : X) (old mid new : State) (all this : Verdict) → InTurn One xs old mid (Ok all) → One x mid new (Ok this) → InTurn One (xs ++ x ∷ []) old new (Ok (and_then all this))
  one_more [] x old mid new all this (same, is) one =
      let all_is : all ≡ done = cc in
      inr (new, this, Ok done, subst (λ (s : State). One x s new (Ok this)) same one, (refl, refl), ap Ok (ap (λ (v : Verdict). and_then v this) all_is ∙ none this))
  one_more (y ∷ ys) x old mid new all this (inl (e, is, ended)) one = absurd cc
  one_more (y ∷ ys) x old mid new all this (inr (between, first, Err e, one_y, turn, is)) one = absurd cc
  one_more (y ∷ ys) x old mid new all this (inr (between, first, Ok rest, one_y, turn, is)) one =
      let all_is : all ≡ and_then first rest = cc in
      inr (between, first, Ok (and_then rest this), one_y, one_more ys x between mid new rest this turn one, ap Ok (ap (λ (v : Verdict). and_then v this) all_is ∙ assoc first rest this))

  -- an item that ends it
  pub ends : (xs : List X) (x : X) (others : List X) (old mid new : State) (all : Verdict) (e : Fault) → InTurn One xs old mid (Ok all) → One x mid new (Err e) → InTurn One (xs ++ x ∷ others) old new (Err e)
  ends [] x others old mid new all e (same, is) one = inl (e, refl, subst (λ (s : State). One x s new (Err e)) same one)
  ends (y ∷ ys) x others old mid new all e (inl (f, is, ended)) one = absurd cc
  ends (y ∷ ys) x others old mid new all e (inr (between, first, Err f, one_y, turn, is)) one = absurd cc
  ends (y ∷ ys) x others old mid new all e (inr (between, first, Ok rest, one_y, turn, is)) one = inr (between, first, Err e, one_y, ends ys x others between mid new rest e turn one, refl)
