-- Digits that are checked and not decoded.
use Rattle.std.proofs.Common.{◌≡◌, ℕ, suc, ◌+◌, ◌*◌, ◌-◌, ◌^◌, ◌<◌, ◌≤◌, inl, inr, List, [], ◌∷◌, get_or, drop, take, Option, Some, None, Bool, true, false, cond, eqb, if◌then◌else◌, ◌==◌, refl, ap, ◌∙◌, arith, mul-le-mul}
use Rattle.std.specs.Prelude.{fold}
use Rattle.std.specs.Option.{option_map}
use Rattle.std.specs.List.{prefix_len}
use Rattle.std.specs.Char.{is_ascii_alphanumeric}
use Rattle.std.proofs.Math.Nat.{pow-le-pow_right, mul_assoc}
use Rattle.std.proofs.lemmas.Grind.{pow_more}
use Rattle.std.proofs.lemmas.List.{get_or-drop}
use Rattle.std.proofs.lemmas.Bool.{cases_Bool, cond-true, cond-false, eq-eqb, ne_eqb}
use Rattle.std.proofs.lemmas.Bool.Decides.{nat_tests}
use Rattle.binfarce_text.specs.Steps.{◌>>=◌}
use Rattle.binfarce_v0_grammar.specs.Base62.{digit_62, value_62, limited, base_62_number, optional_base_62_number}
use Rattle.binfarce_v0_grammar.specs.Identifiers.{UndisambiguatedIdentifier, undisambiguated_identifier, identifier}
use Rattle.binfarce_v0_grammar.specs.machine.View.{without_disambiguator}
use Rattle.binfarce_v0_grammar.proofs.NumberLemmas.{digit_below, run_length}

abbrev next_62 : ℕ → ℕ → ℕ
next_62 n c = n * 62 + digit_62 c

-- the run of digits that a text begins with, and its length
abbrev run : List ℕ → ℕ
run s = prefix_len is_ascii_alphanumeric s

-- n digits after a number write less than 62 to their count for each that the number counts up to
run_below : (s : List ℕ) (so_far : ℕ) → fold next_62 so_far (take (run s) s) < (so_far + 1) * 62 ^ run s
run_below [] so_far = omega arith
run_below (c ∷ s) so_far = elim (cases_Bool (is_ascii_alphanumeric c)) [
  | inl digit ↦
      let n : ℕ = run s in
      let more : run (c ∷ s) ≡ suc n = cond-true (is_ascii_alphanumeric c) (1 + n) 0 digit ∙ omega arith in
      rw more (grown (fold next_62 (so_far * 62 + digit_62 c) (take n s)) (62 ^ n) (62 ^ suc n) (ap (λ k. 62 ^ k) (let next : suc n ≡ n + 1 = omega arith in next) ∙ pow_more 62 n) (digit_below c digit) (run_below s (so_far * 62 + digit_62 c)))
  | inr other ↦
      let none : run (c ∷ s) ≡ 0 = cond-false (is_ascii_alphanumeric c) _ 0 other in
      rw none (omega arith)
]
  where
    grown : (value p q : ℕ) → q ≡ p * 62 → digit_62 c < 62 → value < (so_far * 62 + digit_62 c + 1) * p → value < (so_far + 1) * q
    grown value p q e small h =
        let top : (so_far * 62 + digit_62 c + 1) * p ≤ (so_far + 1) * 62 * p = mul-le-mul (omega (arith, small)) (omega arith) in
        let same : (so_far + 1) * 62 * p ≡ (so_far + 1) * q = mul_assoc (so_far + 1) 62 p ∙ ap (λ x. (so_far + 1) * x) (let by : 62 * p ≡ q = omega (arith, e) in by) in
        omega (arith, h, top, same)

ten_digits : (s : List ℕ) → run s ≤ 10 → value_62 (take (run s) s) < 2 ^ 64 - 2
ten_digits s few =
    let top : 62 ^ run s ≤ 62 ^ 10 = pow-le-pow_right {n = 62} (omega arith) {i = run s} {j = 10} few in
    omega (arith, run_below s 0, top)

-- the same from a position on
pub few_digits : (part : List ℕ) (start : ℕ) → run (drop start part) ≤ 10 → value_62 (take (run (drop start part)) (drop start part)) < 2 ^ 64 - 2
few_digits part start few = ten_digits (drop start part) few

-- nine digits after two that write less than 1362
two_more : (a b : ℕ) (s : List ℕ) → run (a ∷ b ∷ s) ≡ 11 → digit_62 a * 62 + digit_62 b < 1362 → value_62 (take (run (a ∷ b ∷ s)) (a ∷ b ∷ s)) < 2 ^ 64 - 2
two_more a b s eleven small = elim (cases_Bool (is_ascii_alphanumeric a)) [
  | inr other ↦
      let none : run (a ∷ b ∷ s) ≡ 0 = cond-false (is_ascii_alphanumeric a) _ 0 other in absurd (omega (arith, none, eleven))
  | inl first ↦
      let one : run (a ∷ b ∷ s) ≡ suc (run (b ∷ s)) = cond-true (is_ascii_alphanumeric a) (1 + run (b ∷ s)) 0 first ∙ omega arith in
      elim (cases_Bool (is_ascii_alphanumeric b)) [
        | inr other ↦
            let none : run (b ∷ s) ≡ 0 = cond-false (is_ascii_alphanumeric b) _ 0 other in absurd (omega (arith, one, none, eleven))
        | inl second ↦
            let two : run (b ∷ s) ≡ suc (run s) = cond-true (is_ascii_alphanumeric b) (1 + run s) 0 second ∙ omega arith in
            let nine : run s ≡ 9 = omega (arith, one, two, eleven) in
            rw eleven (below nine)
      ]
]
  where
    below : run s ≡ 9 → fold next_62 ((0 * 62 + digit_62 a) * 62 + digit_62 b) (take 9 s) < 2 ^ 64 - 2
    below nine =
        let lead : ℕ = (0 * 62 + digit_62 a) * 62 + digit_62 b in
        let all : fold next_62 lead (take (run s) s) < (lead + 1) * 62 ^ run s = run_below s lead in
        let those : fold next_62 lead (take 9 s) < (lead + 1) * 62 ^ 9 = rw nine at all in
        omega (arith, those, small)

eleven_first : (s : List ℕ) → run s ≡ 11 → digit_62 (get_or s 0 0) * 62 + digit_62 (get_or s 1 0) < 1362 → value_62 (take (run s) s) < 2 ^ 64 - 2
eleven_first [] e small = absurd (omega (arith, e))
eleven_first (a ∷ []) e small = elim (cases_Bool (is_ascii_alphanumeric a)) [
  | inl digit ↦ absurd (omega (arith, e, cond-true (is_ascii_alphanumeric a) (1 + 0) 0 digit))
  | inr other ↦ absurd (omega (arith, e, cond-false (is_ascii_alphanumeric a) (1 + 0) 0 other))
]
eleven_first (a ∷ b ∷ s) e small = two_more a b s e small

pub eleven_digits : (part : List ℕ) (start : ℕ) → run (drop start part) ≡ 11 → digit_62 (get_or part start 0) * 62 + digit_62 (get_or part (start + 1) 0) < 1362 → value_62 (take (run (drop start part)) (drop start part)) < 2 ^ 64 - 2
eleven_digits part start e small =
    let first : get_or (drop start part) 0 0 ≡ get_or part start 0 = get_or-drop start part 0 0 ∙ ap (λ k. get_or part k 0) (let here : start + 0 ≡ start = omega arith in here) in
    let second : get_or (drop start part) 1 0 ≡ get_or part (start + 1) 0 = get_or-drop start part 1 0 in
    eleven_first (drop start part) e (rw (first, second) small)

-- Numbers after a tag

abbrev place_of : Option (ℕ × ℕ) → Option ℕ
place_of o = option_map (λ r. r.1) o

limited_small : (v after : ℕ) → v < 2 ^ 64 → limited v after ≡ Some (v, after)
limited_small v after h = grind (arith, nat_tests)

pub skips_nothing : (part : List ℕ) (tag at : ℕ) → (get_or part at 0 ≡ tag → ⊥) → place_of (optional_base_62_number part tag at) ≡ Some at
unfolding optional_base_62_number
skips_nothing part tag at ne = ap place_of (cond-false (eqb (get_or part at 0) tag) _ _ (ne_eqb (get_or part at 0) tag ne))

-- the number that n digits from a position on write, before a "_"
abbrev number_of : List ℕ → ℕ → ℕ → ℕ → Option (ℕ × ℕ)
number_of part at n k =
    cond (eqb (get_or part (at + k) 0) 95) (limited (cond (eqb k 0) 0 (value_62 (take n (drop at part)) + 1)) (at + k + 1)) None

digits_below : (n value : ℕ) → value < 2 ^ 64 - 2 → cond (eqb n 0) 0 (value + 1) < 2 ^ 64 - 1
digits_below n value small = by (eqb n 0)
  where
    by : (b : Bool) → cond b 0 (value + 1) < 2 ^ 64 - 1
    by true = omega arith
    by false = omega (arith, small)

ends_small : (b : Bool) (value after : ℕ) → value < 2 ^ 64 - 1 → place_of (cond b (limited value after) None >>= λ r. limited (r.0 + 1) r.1) ≡ cond b (Some after) None
ends_small false value after small = refl
ends_small true value after small =
    ap (λ o. place_of (o >>= λ r. limited (r.0 + 1) r.1)) (limited_small value after (omega (arith, small)))
    ∙ ap place_of (limited_small (value + 1) after (omega (arith, small)))

pub skips_small : (part : List ℕ) (tag at : ℕ) → get_or part at 0 ≡ tag
    → value_62 (take (run (drop (at + 1) part)) (drop (at + 1) part)) < 2 ^ 64 - 2
    → place_of (optional_base_62_number part tag at) ≡ (if get_or part (at + 1 + run (drop (at + 1) part)) 0 == 95 then Some (at + 1 + run (drop (at + 1) part) + 1) else None)
unfolding optional_base_62_number base_62_number
skips_small part tag at here small =
    let n : ℕ = run (drop (at + 1) part) in
    let counted : base_62_number part (at + 1) ≡ number_of part (at + 1) n n = ap (number_of part (at + 1) n) (run_length is_ascii_alphanumeric (drop (at + 1) part)) in
    ap place_of (cond-true (eqb (get_or part at 0) tag) _ _ (eq-eqb (get_or part at 0) tag here))
    ∙ ap (λ o. place_of (o >>= λ r. limited (r.0 + 1) r.1)) counted
    ∙ ends_small (eqb (get_or part (at + 1 + n) 0) 95) _ (at + 1 + n + 1) (digits_below n _ small)

-- Identifiers

pub identifier_name : (part : List ℕ) (at : ℕ) → without_disambiguator (identifier part at) ≡ (place_of (optional_base_62_number part 115 at) >>= λ start. undisambiguated_identifier part start)
unfolding identifier
identifier_name part at = by (optional_base_62_number part 115 at)
  where
    named : (d : ℕ) (o : Option (UndisambiguatedIdentifier × ℕ)) → without_disambiguator (o >>= λ i. Some (record { disambiguator = d; name = i.0 }, i.1)) ≡ o
    named d None = refl
    named d (Some i) = refl

    by : (o : Option (ℕ × ℕ)) → without_disambiguator (o >>= λ d. (undisambiguated_identifier part d.1 >>= λ i. Some (record { disambiguator = d.0; name = i.0 }, i.1))) ≡ (place_of o >>= λ start. undisambiguated_identifier part start)
    by None = refl
    by (Some d) = named d.0 (undisambiguated_identifier part d.1)
