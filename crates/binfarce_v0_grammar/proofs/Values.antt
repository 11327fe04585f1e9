-- The table of the value of each byte as a base-62 digit.
use Rattle.std.proofs.Common.{◌≡◌, ℕ, zero, suc, ◌<◌, ◌≤◌, inl, inr, Bool, true, false, ◌&&◌, nat_eq, if◌then◌else◌, List, ◌∷◌, ◌++◌, get_or, refl, ◌∙◌, subst, arith, replicate}
use Rattle.std.proofs.lemmas.Bool.Decides.{nat_tests}
use Rattle.std.proofs.lemmas.Bool.{cases_Bool, cases_lt, cond-true, cond-false}
use Rattle.std.specs.Char.{is_ascii_alphanumeric}
use Rattle.binfarce_v0_grammar.specs.Base62.{digit_62}
use Rattle.binfarce_v0_grammar.proofs.NumberLemmas.{digit_below}

-- before `0`, to `9`, before `A`, to `Z`, before `a`, to `z`, and behind
abbrev values : List ℕ
values = replicate 48 62 ++ (0 ∷ 1 ∷ 2 ∷ 3 ∷ 4 ∷ 5 ∷ 6 ∷ 7 ∷ 8 ∷ 9 ∷ (replicate 7 62 ++ (36 ∷ 37 ∷ 38 ∷ 39 ∷ 40 ∷ 41 ∷ 42 ∷ 43 ∷ 44 ∷ 45 ∷ 46 ∷ 47 ∷ 48 ∷ 49 ∷ 50 ∷ 51 ∷ 52 ∷ 53 ∷ 54 ∷ 55 ∷ 56 ∷ 57 ∷ 58 ∷ 59 ∷ 60 ∷ 61 ∷ (replicate 6 62 ++ (10 ∷ 11 ∷ 12 ∷ 13 ∷ 14 ∷ 15 ∷ 16 ∷ 17 ∷ 18 ∷ 19 ∷ 20 ∷ 21 ∷ 22 ∷ 23 ∷ 24 ∷ 25 ∷ 26 ∷ 27 ∷ 28 ∷ 29 ∷ 30 ∷ 31 ∷ 32 ∷ 33 ∷ 34 ∷ 35 ∷ replicate 133 62)))))

abbrev table_value : ℕ → ℕ
table_value byte = if is_ascii_alphanumeric byte then digit_62 byte else 62

all_below : ℕ → (ℕ → Bool) → Bool
all_below zero test = true
all_below (suc n) test = test n && all_below n test

both : (a b : Bool) → (a && b) ≡ true → (a ≡ true) × (b ≡ true)
both true true e = (refl, refl)
both true false e = absurd cc
both false b e = absurd cc

each_below : (n : ℕ) (test : ℕ → Bool) → all_below n test ≡ true → (i : ℕ) → i < n → test i ≡ true
unfolding all_below
each_below zero test all i lt = absurd (omega arith)
each_below (suc n) test all i lt =
    let halves = both (test n) (all_below n test) all in
    let P : ℕ → Type 0 = λ k. test k ≡ true in
    elim (cases_lt i n) [
      | inl before ↦ each_below n test halves.1 i before
      | inr after ↦ let same : n ≡ i = omega arith in subst P same halves.0
    ]

is_in_table : (d byte : ℕ) → byte < 256 → nat_eq (get_or values byte d) (table_value byte) ≡ true
unfolding all_below digit_62
is_in_table d byte lt = each_below 256 (λ i. nat_eq (get_or values i d) (table_value i)) refl byte lt

value_is : (d byte : ℕ) → byte < 256 → get_or values byte d ≡ table_value byte
value_is d byte lt = by (get_or values byte d) (table_value byte) (is_in_table d byte lt)
  where
    by : (a b : ℕ) → nat_eq a b ≡ true → a ≡ b
    by a b e = grind (arith, nat_tests)

-- a byte that is no digit
pub is_none : (d byte : ℕ) → byte < 256 → 61 < get_or values byte d → is_ascii_alphanumeric byte ≡ true → ⊥
is_none d byte lt high digit =
    let value : get_or values byte d ≡ digit_62 byte = value_is d byte lt ∙ cond-true (is_ascii_alphanumeric byte) (digit_62 byte) 62 digit in
    omega (arith, high, value, digit_below byte digit)

-- a digit
pub is_value : (d byte : ℕ) → byte < 256 → get_or values byte d ≤ 61 → (is_ascii_alphanumeric byte ≡ true) × (get_or values byte d ≡ digit_62 byte)
is_value d byte lt low = elim (cases_Bool (is_ascii_alphanumeric byte)) [
  | inl digit ↦ (digit, value_is d byte lt ∙ cond-true (is_ascii_alphanumeric byte) (digit_62 byte) 62 digit)
  | inr other ↦
      let none : get_or values byte d ≡ 62 = value_is d byte lt ∙ cond-false (is_ascii_alphanumeric byte) (digit_62 byte) 62 other in absurd (omega (arith, low, none))
]
