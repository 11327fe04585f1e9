-- The first NUL, behind bytes of which none is one.
use Rattle.std.proofs.Common.{◌≡◌, ℕ, zero, suc, ◌+◌, ◌≤◌, Bool, true, false, cond, ◌||◌, eqb, ltb, List, [], ◌∷◌, length, take, drop, Some, None, refl, arith, inl, inr}
use Rattle.std.specs.Option.{option_map}
use Rattle.std.specs.List.{list_any, position_or_len}
use Rattle.std.proofs.lemmas.Bool.{cases_lt, lt-ltb, le-ltb}
use Rattle.std.proofs.lemmas.List.{length-drop}
use Rattle.binfarce_bytes.specs.Text.{nul_at}

or_false : (a b : Bool) → (a || b) ≡ false → (a ≡ false) × (b ≡ false)
or_false true b e = absurd cc
or_false false b e = (refl, e)

-- where the first is, counted from behind such bytes
past : (n : ℕ) (bytes : List ℕ) → n ≤ length bytes → list_any (λ b. eqb b 0) (take n bytes) ≡ false
    → position_or_len (λ b. eqb b 0) bytes ≡ n + position_or_len (λ b. eqb b 0) (drop n bytes)
past zero bytes le e = omega arith
past (suc n) [] le e = absurd (omega arith)
past (suc n) (b ∷ bytes) le e =
    let both = or_false (eqb b 0) (list_any (λ c. eqb c 0) (take n bytes)) e in
    let rest = past n bytes (omega arith) both.1 in
    rw both.0 (omega (arith, rest))

by_place : (n a b : ℕ) → (cond (ltb (n + a) (n + b)) (Some (n + a)) None) ≡ option_map (λ i. n + i) (cond (ltb a b) (Some a) None)
by_place n a b =
    elim (cases_lt a b) [
      | inl lt ↦ rw (lt-ltb a b lt, lt-ltb (n + a) (n + b) (omega arith)) refl
      | inr le ↦ rw (le-ltb a b le, le-ltb (n + a) (n + b) (omega arith)) refl
    ]

pub nul_past : (n : ℕ) (bytes : List ℕ) → n ≤ length bytes → list_any (λ b. eqb b 0) (take n bytes) ≡ false
    → nul_at bytes ≡ option_map (λ i. n + i) (nul_at (drop n bytes))
nul_past n bytes le e =
    let rest = drop n bytes in
    let long : length bytes ≡ n + length rest = omega (arith, length-drop n bytes) in
    let p : ℕ → Bool = λ b. eqb b 0 in
    rw (past n bytes le e, long) (by_place n (position_or_len p rest) (length rest))

-- none among the first n, and none among the next m
pub none_more : (n m : ℕ) (bytes : List ℕ) → list_any (λ b. eqb b 0) (take n bytes) ≡ false → list_any (λ b. eqb b 0) (take m (drop n bytes)) ≡ false
    → list_any (λ b. eqb b 0) (take (n + m) bytes) ≡ false
none_more zero m bytes front e = rw zero_more e
  where
    zero_more : 0 + m ≡ m
    zero_more = omega arith
none_more (suc n) m [] front e = rw suc_more refl
  where
    suc_more : suc n + m ≡ suc (n + m)
    suc_more = omega arith
none_more (suc n) m (b ∷ bytes) front e =
    let both = or_false (eqb b 0) (list_any (λ c. eqb c 0) (take n bytes)) front in
    rw suc_more (rw both.0 (none_more n m bytes both.1 e))
  where
    suc_more : suc n + m ≡ suc (n + m)
    suc_more = omega arith
