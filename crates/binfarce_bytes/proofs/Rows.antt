-- The entries of numbered rows, as a loop goes over them.
use Rattle.std.proofs.Common.{◌≡◌, ℕ, zero, suc, ◌+◌, List, [], ◌∷◌, ◌++◌, Option, Result, Ok, Err, MatchResult, OnErr, ap, subst, ◌∙◌, arith}
use Rattle.std.specs.List.{range_with_len, filter_map}
use Rattle.std.proofs.lemmas.List.Elements.{filter_map-append}

pub range_more : (a n : ℕ) → range_with_len a (n + 1) ≡ range_with_len a n ++ (a + n) ∷ []
range_more a zero = same_one a (a + 0) (omega arith)
  where
    same_one : (m n : ℕ) → m ≡ n → m ∷ [] ≡ n ∷ []
    same_one m n e = cc
range_more a (suc n) =
    rw (suc_more n) (ap (λ (xs : List ℕ). a ∷ xs) (range_more (a + 1) n ∙ last (a + 1 + n) (a + suc n) (omega arith)))
  where
    suc_more : (m : ℕ) → suc m + 1 ≡ suc (m + 1)
    suc_more m = omega arith

    last : (m k : ℕ) → m ≡ k → range_with_len (a + 1) n ++ m ∷ [] ≡ range_with_len (a + 1) n ++ k ∷ []
    last m k e = cc

-- what row k adds
pub one_more : {X : Type 0} (f : ℕ → Option X) (k : ℕ) → filter_map f (range_with_len 0 (k + 1)) ≡ filter_map f (range_with_len 0 k) ++ filter_map f (k ∷ [])
one_more f k = ap (filter_map f) (range_more 0 k ∙ ap (λ (m : ℕ). range_with_len 0 k ++ m ∷ []) (omega arith)) ∙ filter_map-append f (range_with_len 0 k) (k ∷ [])

-- what a call's value is known to be, where it is known to be there
pub match_ok : {T E : Type 0} (r : Result T E) (x : T) (P : T → Type 0) (Q : E → Type 0) → r ≡ Ok x → MatchResult r P Q → P x
match_ok (Ok y) x P Q e h = subst P (ok_is y x e) h
  where
    ok_is : {T E : Type 0} (y x : T) → Path (Result T E) (Ok y) (Ok x) → y ≡ x
    ok_is y x e = cc
match_ok (Err d) x P Q e h = absurd cc

pub on_err : {T E : Type 0} (r : Result T E) (P : Type 0) → P → OnErr r P
on_err (Ok x) P p = tt
on_err (Err e) P p = p
