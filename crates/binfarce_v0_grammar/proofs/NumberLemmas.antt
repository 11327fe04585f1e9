-- One more byte of a number, numbers that are too large, and that the loops find what the longest runs of digits write.
use Rattle.std.proofs.Common.{◌≡◌, ℕ, suc, ◌+◌, ◌*◌, ◌-◌, ◌^◌, ◌<◌, ◌≤◌, inl, inr, List, [], ◌∷◌, length, get_or, drop, take, Option, Some, None, Bool, true, false, cond, eqb, if◌then◌else◌, ◌==◌, refl, ap, sym, ◌∙◌, arith}
use Rattle.std.specs.Prelude.{fold, slice_range}
use Rattle.std.specs.Option.{option_map}
use Rattle.std.specs.List.{prefix_len}
use Rattle.std.specs.Int.{is_in_range}
use Rattle.std.specs.Char.{is_ascii_alphanumeric, is_ascii_digit, digit_value}
use Rattle.std.specs.Str.Parse.{digits_value_after}
use Rattle.std.proofs.lemmas.List.{at_drop_all, at_drop_more, length-take-le, get_or-drop}
use Rattle.std.proofs.lemmas.List.Sums.{prefix_len-le-length}
use Rattle.std.proofs.lemmas.Bool.{cases_Bool, cases_eq, cases_lt, cond-true, cond-false, eq-eqb, ne_eqb}
use Rattle.std.proofs.lemmas.Bool.Decides.{nat_tests}
use Rattle.std.proofs.Math.Nat.{pow-le-pow_right}
use Rattle.std.proofs.lemmas.Grind.{pow_more}
use Rattle.binfarce_text.specs.Letters.{is_hex_digit}
use Rattle.binfarce_text.specs.Steps.{◌>>=◌}
use Rattle.binfarce_v0_grammar.specs.Base62.{digit_62, limited, base_62_number, hex_digits}
use Rattle.binfarce_v0_grammar.specs.Identifiers.{length_at}
use Rattle.binfarce_v0_grammar.specs.machine.Numbers.{number_from, decimal_from, length_from, hex_length}

-- One more byte

pub number_from_step : (s : List ℕ) (at value : ℕ) → at < length s → number_from (drop at s) value at ≡ (if get_or s at 0 == 95 then limited (value + 1) (at + 1) else (if is_ascii_alphanumeric (get_or s at 0) then number_from (drop (at + 1) s) (value * 62 + digit_62 (get_or s at 0)) (at + 1) else None))
number_from_step s at value h = at_drop_more (λ l. number_from l value at) s at 0 h

pub length_from_step : (s : List ℕ) (at value : ℕ) → at < length s → length_from (drop at s) value at ≡ (if is_ascii_digit (get_or s at 0) then length_from (drop (at + 1) s) (value * 10 + (get_or s at 0 - 48)) (at + 1) else limited value at)
length_from_step s at value h = at_drop_more (λ l. length_from l value at) s at 0 h ∙ split (is_ascii_digit (get_or s at 0))
  where
    rest : ℕ × ℕ
    rest = decimal_from (drop (at + 1) s) (value * 10 + (get_or s at 0 - 48)) (at + 1)

    split : (b : Bool) → limited (cond b rest (value, at)).0 (cond b rest (value, at)).1 ≡ cond b (limited rest.0 rest.1) (limited value at)
    split true = refl
    split false = refl

pub hex_length_step : (s : List ℕ) (at : ℕ) → at < length s → hex_length (drop at s) ≡ (if get_or s at 0 == 95 then Some 0 else (if is_hex_digit (get_or s at 0) then option_map (λ n. n + 1) (hex_length (drop (at + 1) s)) else None))
hex_length_step s at h = at_drop_more hex_length s at 0 h

-- Numbers only grow

both_none : (b : Bool) (x y : Option (ℕ × ℕ)) → x ≡ None → y ≡ None → cond b x y ≡ None
both_none true x y h k = h
both_none false x y h k = k

limited_large : (v after : ℕ) → 2 ^ 64 ≤ v → limited v after ≡ None
limited_large v after h = grind (arith, nat_tests)

limited_small : (v after : ℕ) → v < 2 ^ 64 → limited v after ≡ Some (v, after)
limited_small v after h = grind (arith, nat_tests)

pub number_from_large : (s : List ℕ) (value at : ℕ) → 2 ^ 64 ≤ value → number_from s value at ≡ None
number_from_large [] value at h = refl
number_from_large (c ∷ s) value at h =
    both_none (eqb c 95) _ _ (limited_large (value + 1) (at + 1) (omega arith)) (both_none (is_ascii_alphanumeric c) _ None (number_from_large s (value * 62 + digit_62 c) (at + 1) (omega arith)) refl)

pub number_from_over : (s : List ℕ) (at value : ℕ) → at < length s → (get_or s at 0 ≡ 95 → ⊥) → 2 ^ 64 ≤ value * 62 + digit_62 (get_or s at 0) → number_from (drop at s) value at ≡ None
number_from_over s at value h ne large =
    let over = number_from_large (drop (at + 1) s) (value * 62 + digit_62 (get_or s at 0)) (at + 1) large in
    number_from_step s at value h ∙ cond-false (eqb (get_or s at 0) 95) _ _ (ne_eqb (get_or s at 0) 95 ne) ∙ both_none (is_ascii_alphanumeric (get_or s at 0)) _ None over refl

decimal_from_split : (b : Bool) (value : ℕ) (x y : ℕ × ℕ) → value ≤ x.0 → value ≤ y.0 → value ≤ (cond b x y).0
decimal_from_split true value x y h k = h
decimal_from_split false value x y h k = k

decimal_from_grows : (s : List ℕ) (value at : ℕ) → value ≤ (decimal_from s value at).0
decimal_from_grows [] value at = omega arith
decimal_from_grows (c ∷ s) value at =
    decimal_from_split (is_ascii_digit c) value _ _ (omega (arith, decimal_from_grows s (value * 10 + (c - 48)) (at + 1))) (omega arith)

pub length_from_large : (s : List ℕ) (value at : ℕ) → 2 ^ 64 ≤ value → length_from s value at ≡ None
length_from_large s value at h =
    limited_large (decimal_from s value at).0 (decimal_from s value at).1 (omega (arith, decimal_from_grows s value at))

-- A length of one digit

length_ends : (s : List ℕ) (at value : ℕ) → value < 2 ^ 64 → is_ascii_digit (get_or s at 0) ≡ false → length_from (drop at s) value at ≡ Some (value, at)
length_ends s at value small other = elim (cases_lt at (length s)) [
  | inl inside ↦ length_from_step s at value inside ∙ cond-false (is_ascii_digit (get_or s at 0)) _ _ other ∙ limited_small value at small
  | inr past ↦ at_drop_all (λ l. length_from l value at) s at past ∙ limited_small value at small
]

decimal_within : (c : ℕ) → is_ascii_digit c ≡ true → (0 < c) × (c < 58)
decimal_within c digit = (grind (arith, nat_tests), grind (arith, nat_tests))

pub one_digit : (s : List ℕ) (at first second v : ℕ) → at < length s → first ≡ get_or s at 0 → is_ascii_digit first ≡ true
    → second ≡ get_or s (at + 1) 0 → is_ascii_digit second ≡ false → v ≡ first - 48 → Some (v, at + 1) ≡ length_from (drop at s) 0 at
one_digit s at first second v inside here digit next other is =
    let value : ℕ = 0 * 10 + (get_or s at 0 - 48) in
    let same : value ≡ v = omega (arith, here, is) in
    sym (length_from_step s at 0 inside ∙ cond-true (is_ascii_digit (get_or s at 0)) _ _ (ap is_ascii_digit (sym here) ∙ digit)
    ∙ length_ends s (at + 1) value (omega (arith, here, decimal_within first digit)) (ap is_ascii_digit (sym next) ∙ other) ∙ ap (λ v. Some (v, at + 1)) same)

-- Runs

run_none : (p : ℕ → Bool) (s : List ℕ) → p 0 ≡ false → p (get_or s 0 0) ≡ false → prefix_len p s ≡ 0
run_none p [] z h = refl
run_none p (c ∷ s) z h = cond-false (p c) _ 0 h

run_some : (p : ℕ → Bool) (s : List ℕ) → p 0 ≡ false → p (get_or s 0 0) ≡ true → 0 < prefix_len p s
run_some p [] z h = absurd (cc)
run_some p (c ∷ s) z h = omega (arith, cond-true (p c) (1 + prefix_len p s) 0 h)

pub run_length : (p : ℕ → Bool) (s : List ℕ) → length (take (prefix_len p s) s) ≡ prefix_len p s
run_length p s = length-take-le (prefix_len p s) s (prefix_len-le-length p s)

-- the first byte from a position on
first_at : (s : List ℕ) (at : ℕ) → get_or (drop at s) 0 0 ≡ get_or s at 0
first_at s at = get_or-drop at s 0 0 ∙ ap (λ k. get_or s k 0) (let e : at + 0 ≡ at = omega arith in e)

-- Base-62 numbers

abbrev next_62 : ℕ → ℕ → ℕ
next_62 n c = n * 62 + digit_62 c

-- the number that n digits after others write, before a "_"
abbrev ends_62 : List ℕ → ℕ → ℕ → ℕ → Option (ℕ × ℕ)
ends_62 s value at n =
    cond (eqb (get_or s n 0) 95) (limited (fold next_62 value (take n s) + 1) (at + n + 1)) None

number_from_run : (s : List ℕ) (value at : ℕ) → number_from s value at ≡ ends_62 s value at (prefix_len is_ascii_alphanumeric s)
number_from_run [] value at = refl
number_from_run (c ∷ s) value at = elim (cases_eq c 95) [
  | inl e ↦
      let run : prefix_len is_ascii_alphanumeric (c ∷ s) ≡ 0 = cond-false (is_ascii_alphanumeric c) _ 0 (ap is_ascii_alphanumeric e) in
      cond-true (eqb c 95) _ _ (eq-eqb c 95 e)
      ∙ ap (limited (value + 1)) (let here : at + 1 ≡ at + 0 + 1 = omega arith in here)
      ∙ sym (cond-true (eqb c 95) (limited (value + 1) (at + 0 + 1)) None (eq-eqb c 95 e))
      ∙ sym (ap (ends_62 (c ∷ s) value at) run)
  | inr ne ↦ elim (cases_Bool (is_ascii_alphanumeric c)) [
    | inl digit ↦
        let n : ℕ = prefix_len is_ascii_alphanumeric s in
        let run : prefix_len is_ascii_alphanumeric (c ∷ s) ≡ suc n = cond-true (is_ascii_alphanumeric c) (1 + n) 0 digit ∙ omega arith in
        cond-false (eqb c 95) _ _ (ne_eqb c 95 ne)
        ∙ cond-true (is_ascii_alphanumeric c) _ None digit
        ∙ number_from_run s (value * 62 + digit_62 c) (at + 1)
        ∙ ap (λ p. cond (eqb (get_or s n 0) 95) (limited (fold next_62 (value * 62 + digit_62 c) (take n s) + 1) p) None) (let on : at + 1 + n + 1 ≡ at + suc n + 1 = omega arith in on)
        ∙ sym (ap (ends_62 (c ∷ s) value at) run)
    | inr other ↦
        let run : prefix_len is_ascii_alphanumeric (c ∷ s) ≡ 0 = cond-false (is_ascii_alphanumeric c) _ 0 other in
        cond-false (eqb c 95) _ _ (ne_eqb c 95 ne)
        ∙ cond-false (is_ascii_alphanumeric c) _ None other
        ∙ sym (cond-false (eqb c 95) (limited (value + 1) (at + 0 + 1)) None (ne_eqb c 95 ne))
        ∙ sym (ap (ends_62 (c ∷ s) value at) run)
  ]
]

-- the same with a count of its own, of which 0 is a "_" alone
abbrev counted_62 : List ℕ → ℕ → ℕ → ℕ → Option (ℕ × ℕ)
counted_62 s at n k =
    cond (eqb (get_or s (at + k) 0) 95) (limited (cond (eqb k 0) 0 (fold next_62 0 (take n (drop at s)) + 1)) (at + k + 1)) None

counted_one : (s : List ℕ) (at n : ℕ) → get_or s at 0 ≡ 95 → n ≡ 0 → counted_62 s at n n ≡ Some (0, at + 1)
counted_one s at n e z =
    ap (λ k. counted_62 s at k k) z
    ∙ cond-true (eqb (get_or s (at + 0) 0) 95) _ None (eq-eqb _ 95 (ap (λ k. get_or s k 0) (let here : at + 0 ≡ at = omega arith in here) ∙ e))
    ∙ ap (λ k. Some (let r : ℕ × ℕ = (0, k) in r)) (let here : at + 0 + 1 ≡ at + 1 = omega arith in here)

counted_more : (s : List ℕ) (at n : ℕ) → (get_or s at 0 ≡ 95 → ⊥) → counted_62 s at n n ≡ ends_62 (drop at s) 0 at n
counted_more s at n ne = elim (cases_eq n 0) [
  | inl z ↦
      let here : (eqb (get_or s (at + n) 0) 95) ≡ false = ne_eqb _ 95 (λ e. ne (ap (λ k. get_or s k 0) (let p : at ≡ at + n = omega (arith, z) in p) ∙ e)) in
      let there : (eqb (get_or (drop at s) n 0) 95) ≡ false = ap (λ x. eqb x 95) (get_or-drop at s n 0) ∙ here in
      cond-false _ _ None here ∙ sym (cond-false _ _ None there)
  | inr some ↦
      ap (λ b. cond (eqb (get_or s (at + n) 0) 95) (limited (cond b 0 (fold next_62 0 (take n (drop at s)) + 1)) (at + n + 1)) None) (ne_eqb n 0 some)
      ∙ ap (λ x. cond (eqb x 95) (limited (fold next_62 0 (take n (drop at s)) + 1) (at + n + 1)) None) (sym (get_or-drop at s n 0))
]

pub number_step : (s : List ℕ) (at : ℕ) → base_62_number s at ≡ (if get_or s at 0 == 95 then Some (0, at + 1) else number_from (drop at s) 0 at)
unfolding base_62_number
number_step s at =
    let n : ℕ = prefix_len is_ascii_alphanumeric (drop at s) in
    let counted : base_62_number s at ≡ counted_62 s at n n = ap (counted_62 s at n) (run_length is_ascii_alphanumeric (drop at s)) in
    elim (cases_eq (get_or s at 0) 95) [
      | inl e ↦
          let none : n ≡ 0 = run_none is_ascii_alphanumeric (drop at s) refl (ap is_ascii_alphanumeric (first_at s at ∙ e)) in
          counted ∙ counted_one s at n e none ∙ sym (cond-true (eqb (get_or s at 0) 95) _ _ (eq-eqb _ 95 e))
      | inr ne ↦
          counted ∙ counted_more s at n ne ∙ sym (number_from_run (drop at s) 0 at) ∙ sym (cond-false (eqb (get_or s at 0) 95) _ _ (ne_eqb _ 95 ne))
    ]

-- Decimal numbers

digit_is : (c : ℕ) → is_ascii_digit c ≡ true → digit_value c ≡ c - 48
digit_is c h = grind (arith, nat_tests)

decimal_from_run : (s : List ℕ) (value at : ℕ) → decimal_from s value at ≡ (digits_value_after 10 value (take (prefix_len is_ascii_digit s) s), at + prefix_len is_ascii_digit s)
decimal_from_run [] value at = ap (λ k. let r : ℕ × ℕ = (value, k) in r) (let here : at ≡ at + 0 = omega arith in here)
decimal_from_run (c ∷ s) value at = elim (cases_Bool (is_ascii_digit c)) [
  | inl digit ↦
      let n : ℕ = prefix_len is_ascii_digit s in
      let run : prefix_len is_ascii_digit (c ∷ s) ≡ suc n = cond-true (is_ascii_digit c) (1 + n) 0 digit ∙ omega arith in
      cond-true (is_ascii_digit c) _ _ digit
      ∙ decimal_from_run s (value * 10 + (c - 48)) (at + 1)
      ∙ ap (λ d. let r : ℕ × ℕ = (digits_value_after 10 (value * 10 + d) (take n s), at + 1 + n) in r) (sym (digit_is c digit))
      ∙ ap (λ k. let r : ℕ × ℕ = (digits_value_after 10 value (c ∷ take n s), k) in r) (let on : at + 1 + n ≡ at + suc n = omega arith in on)
      ∙ sym (ap (λ k. let r : ℕ × ℕ = (digits_value_after 10 value (take k (c ∷ s)), at + k) in r) run)
  | inr other ↦
      let run : prefix_len is_ascii_digit (c ∷ s) ≡ 0 = cond-false (is_ascii_digit c) _ 0 other in
      cond-false (is_ascii_digit c) _ _ other
      ∙ ap (λ k. let r : ℕ × ℕ = (value, k) in r) (let here : at ≡ at + 0 = omega arith in here)
      ∙ sym (ap (λ k. let r : ℕ × ℕ = (digits_value_after 10 value (take k (c ∷ s)), at + k) in r) run)
]

not_nine : (c : ℕ) → (c ≡ 48 → ⊥) → is_in_range 49 57 c ≡ false → is_ascii_digit c ≡ false
not_nine c ne h = grind (arith, nat_tests)

is_nine : (c : ℕ) → is_in_range 49 57 c ≡ true → is_ascii_digit c ≡ true
is_nine c h = grind (arith, nat_tests)

-- where the first digit isn't "0"
length_more : (s : List ℕ) (at : ℕ) → (get_or s at 0 ≡ 48 → ⊥)
    → cond (eqb (prefix_len is_ascii_digit (drop at s)) 0) None (limited (digits_value_after 10 0 (take (prefix_len is_ascii_digit (drop at s)) (drop at s))) (at + prefix_len is_ascii_digit (drop at s)))
    ≡ cond (is_in_range 49 57 (get_or s at 0)) (length_from (drop at s) 0 at) None
length_more s at ne =
    let n : ℕ = prefix_len is_ascii_digit (drop at s) in
    let base_62_number : Option (ℕ × ℕ) = limited (digits_value_after 10 0 (take n (drop at s))) (at + n) in
    let from : Option (ℕ × ℕ) = length_from (drop at s) 0 at in
    elim (cases_Bool (is_in_range 49 57 (get_or s at 0))) [
      | inl digit ↦
          let some : 0 < n = run_some is_ascii_digit (drop at s) refl (ap is_ascii_digit (first_at s at) ∙ is_nine (get_or s at 0) digit) in
          let run : from ≡ base_62_number = ap (λ (r : ℕ × ℕ). limited r.0 r.1) (decimal_from_run (drop at s) 0 at) in
          cond-false (eqb n 0) None base_62_number (ne_eqb n 0 (λ z. absurd (omega (arith, z, some))))
          ∙ sym run ∙ sym (cond-true (is_in_range 49 57 (get_or s at 0)) from None digit)
      | inr other ↦
          let none : n ≡ 0 = run_none is_ascii_digit (drop at s) refl (ap is_ascii_digit (first_at s at) ∙ not_nine (get_or s at 0) ne other) in
          cond-true (eqb n 0) None base_62_number (eq-eqb n 0 none) ∙ sym (cond-false (is_in_range 49 57 (get_or s at 0)) from None other)
    ]

pub length_step : (s : List ℕ) (at : ℕ) → length_at s at ≡ (if get_or s at 0 == 48 then Some (0, at + 1) else (if is_in_range 49 57 (get_or s at 0) then length_from (drop at s) 0 at else None))
unfolding length_at
length_step s at =
    let n : ℕ = prefix_len is_ascii_digit (drop at s) in
    let one : Option (ℕ × ℕ) = Some (0, at + 1) in
    let base_62_number : Option (ℕ × ℕ) = cond (eqb n 0) None (limited (digits_value_after 10 0 (take n (drop at s))) (at + n)) in
    let from : Option (ℕ × ℕ) = cond (is_in_range 49 57 (get_or s at 0)) (length_from (drop at s) 0 at) None in
    let counted : length_at s at ≡ cond (eqb (get_or s at 0) 48) one base_62_number =
    ap (λ k. cond (eqb (get_or s at 0) 48) one (cond (eqb k 0) None (limited (digits_value_after 10 0 (take n (drop at s))) (at + k)))) (run_length is_ascii_digit (drop at s)) in
    elim (cases_eq (get_or s at 0) 48) [
      | inl e ↦ counted ∙ cond-true (eqb (get_or s at 0) 48) one base_62_number (eq-eqb (get_or s at 0) 48 e) ∙ sym (cond-true (eqb (get_or s at 0) 48) one from (eq-eqb (get_or s at 0) 48 e))
      | inr ne ↦ counted ∙ cond-false (eqb (get_or s at 0) 48) one base_62_number (ne_eqb (get_or s at 0) 48 ne) ∙ length_more s at ne ∙ sym (cond-false (eqb (get_or s at 0) 48) one from (ne_eqb (get_or s at 0) 48 ne))
    ]

-- Hexadecimal digits

hex_length_run : (s : List ℕ) → hex_length s ≡ cond (eqb (get_or s (prefix_len is_hex_digit s) 0) 95) (Some (prefix_len is_hex_digit s)) None
hex_length_run [] = refl
hex_length_run (c ∷ s) = elim (cases_eq c 95) [
  | inl e ↦
      let run : prefix_len is_hex_digit (c ∷ s) ≡ 0 = cond-false (is_hex_digit c) _ 0 (ap is_hex_digit e) in
      cond-true (eqb c 95) _ _ (eq-eqb c 95 e) ∙ sym (cond-true (eqb c 95) (Some 0) None (eq-eqb c 95 e))
      ∙ sym (ap (λ k. cond (eqb (get_or (c ∷ s) k 0) 95) (Some k) None) run)
  | inr ne ↦ elim (cases_Bool (is_hex_digit c)) [
    | inl digit ↦
        let n : ℕ = prefix_len is_hex_digit s in
        let run : prefix_len is_hex_digit (c ∷ s) ≡ suc n = cond-true (is_hex_digit c) (1 + n) 0 digit ∙ omega arith in
        cond-false (eqb c 95) _ _ (ne_eqb c 95 ne) ∙ cond-true (is_hex_digit c) _ None digit
        ∙ ap (λ o. option_map (λ k. k + 1) o) (hex_length_run s)
        ∙ more (eqb (get_or s n 0) 95) n
        ∙ sym (ap (λ k. cond (eqb (get_or (c ∷ s) k 0) 95) (Some k) None) run)
    | inr other ↦
        let run : prefix_len is_hex_digit (c ∷ s) ≡ 0 = cond-false (is_hex_digit c) _ 0 other in
        cond-false (eqb c 95) _ _ (ne_eqb c 95 ne) ∙ cond-false (is_hex_digit c) _ None other
        ∙ sym (cond-false (eqb c 95) (Some 0) None (ne_eqb c 95 ne))
        ∙ sym (ap (λ k. cond (eqb (get_or (c ∷ s) k 0) 95) (Some k) None) run)
  ]
]
  where
    more : (b : Bool) (n : ℕ) → option_map (λ k. k + 1) (cond b (Some n) None) ≡ cond b (Some (suc n)) None
    more true n = ap (λ k. Some k) (let on : n + 1 ≡ suc n = omega arith in on)
    more false n = refl

pub hex_digits_step : (s : List ℕ) (at : ℕ) → hex_digits s at ≡ (hex_length (drop at s) >>= λ n. Some (slice_range s at (at + n), at + n + 1))
unfolding hex_digits
hex_digits_step s at =
    let n : ℕ = prefix_len is_hex_digit (drop at s) in
    ap (λ k. cond (eqb (get_or s (at + k) 0) 95) (Some (let r : List ℕ × ℕ = (take n (drop at s), at + k + 1) in r)) None) (run_length is_hex_digit (drop at s))
    ∙ ap (λ x. cond (eqb x 95) (Some (let r : List ℕ × ℕ = (take n (drop at s), at + n + 1) in r)) None) (sym (get_or-drop at s n 0))
    ∙ ap (λ k. cond (eqb (get_or (drop at s) n 0) 95) (Some (let r : List ℕ × ℕ = (take k (drop at s), at + n + 1) in r)) None) (let size : n ≡ at + n - at = omega arith in size)
    ∙ split (eqb (get_or (drop at s) n 0) 95) n
    ∙ sym (ap (λ o. o >>= λ k. Some (let r : List ℕ × ℕ = (slice_range s at (at + k), at + k + 1) in r)) (hex_length_run (drop at s)))
  where
    split : (b : Bool) (n : ℕ) → cond b (Some (let r : List ℕ × ℕ = (slice_range s at (at + n), at + n + 1) in r)) None ≡ (cond b (Some n) None >>= λ k. Some (let r : List ℕ × ℕ = (slice_range s at (at + k), at + k + 1) in r))
    split true n = refl
    split false n = refl

pub hex_fits : (i value digit : ℕ) → i < 16 → value < 16 ^ i → digit < 16 → (value * 16 + digit < 16 ^ (i + 1)) × (value * 16 + digit < 2 ^ 64)
hex_fits i value digit h small d =
    let below : value * 16 + digit < 16 ^ (i + 1) = omega (arith, pow_more 16 i) in
    let top : 16 ^ (i + 1) ≤ 16 ^ 16 = pow-le-pow_right {n = 16} (omega arith) {i = i + 1} {j = 16} (omega arith) in
    (below, omega arith)

pub digit_below : (c : ℕ) → is_ascii_alphanumeric c ≡ true → digit_62 c < 62
unfolding digit_62
digit_below c h = grind (arith, nat_tests)
