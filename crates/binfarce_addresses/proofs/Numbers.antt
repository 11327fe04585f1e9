-- The hexadecimal digits of a number.
use Rattle.std.proofs.Common.{◌≡◌, ℕ, zero, suc, ◌+◌, ◌-◌, ◌*◌, ◌/◌, ◌%◌, ◌^◌, ◌<◌, ◌≤◌, min, List, [], ◌∷◌, length, drop, false, eqb, refl, ap, ◌∙◌, arith, replicate}
use Rattle.std.specs.Fmt.{digit_glyph, digits, digits_onto}
use Rattle.std.specs.Int.{leading_zeros, w64}
use Rattle.std.proofs.Math.Nat.{pow-suc, pow-le-pow_right}
use Rattle.std.proofs.Math.Seq.{drop-append_seam}
use Rattle.std.proofs.lemmas.Bool.{cond-true, cond-false, eq-eqb, ne_eqb}
use Rattle.std.proofs.lemmas.List.{length-replicate}
use Rattle.std.proofs.lemmas.Nat.{leading_length}
use Rattle.binfarce_rows.specs.Columns.{address_text}

-- 16 is four bits
hex : (k : ℕ) → 16 ^ k ≡ 2 ^ (4 * k)
hex zero = refl
hex (suc k) =
    let next : 4 * suc k ≡ suc (suc (suc (suc (4 * k)))) = omega arith in
    omega (arith, pow-suc 16 k, hex k, ap (λ n. 2 ^ n) next, pow-suc 2 (suc (suc (suc (4 * k)))), pow-suc 2 (suc (suc (4 * k))), pow-suc 2 (suc (4 * k)), pow-suc 2 (4 * k))

-- how many digits a number has
count : (k f n : ℕ) (text : List ℕ) → k < f → n < 16 ^ suc k → (0 < k → 16 ^ k ≤ n) → length (digits_onto f 16 false n text) ≡ suc k + length text
count k zero n text fuel small large = absurd (omega arith)
count zero (suc f) n text fuel small large = ap length (cond-true (eqb (n / 16) 0) _ _ (eq-eqb (n / 16) 0 (omega arith))) ∙ (let one : suc (length text) ≡ suc zero + length text = omega arith in one)
count (suc k) (suc f) n text fuel small large =
    let low = large (omega arith) in
    let high = pow-suc 16 (suc k) in
    let less = pow-suc 16 k in
    ap length (cond-false (eqb (n / 16) 0) _ _ (ne_eqb (n / 16) 0 (λ none. absurd (omega (arith, low, less, one k)))))
    ∙ count k f (n / 16) (digit_glyph false (n % 16) ∷ text) (omega arith) (omega (arith, high)) (λ some. omega (arith, low, less)) ∙ (let sum : suc k + suc (length text) ≡ suc (suc k) + length text = omega arith in sum)
  where
    one : (k : ℕ) → 0 < 16 ^ k
    one zero = omega arith
    one (suc k) = omega (arith, pow-suc 16 k, one k)

-- of 16 digits, those from the first one on that isn't 0, or the last one
pub shown_from : (n zeros : ℕ) → n < 2 ^ 64 → zeros ≡ min (leading_zeros w64 n / 4) 15 → drop zeros (address_text n) ≡ digits 16 false n
unfolding digits
shown_from n zeros small is =
    let bits = leading_length 64 n small in
    let k = 15 - zeros in
    let four : 4 * suc k ≡ 64 - 4 * zeros = omega (arith, is) in
    let high : 2 ^ bits.0 ≤ 2 ^ (4 * suc k) = pow-le-pow_right {n = 2} (omega arith) {i = bits.0} {j = 4 * suc k} (omega (arith, is, bits.1)) in
    let low : 0 < k → 2 ^ suc (4 * k) ≤ 2 ^ bits.0 = λ some. pow-le-pow_right {n = 2} (omega arith) {i = suc (4 * k)} {j = bits.0} (omega (arith, is, bits.1)) in
    let many : length (digits 16 false n) ≡ suc k + 0 = count k 64 n [] (omega arith) (omega (arith, hex (suc k), high, bits.2)) (λ some. omega (arith, hex k, low some, pow-suc 2 (4 * k), bits.3)) in
    let before : zeros ≡ length (replicate (16 - length (digits 16 false n)) 48) = omega (arith, is, many, length-replicate {A = ℕ} (16 - length (digits 16 false n)) 48) in
    ap (λ m. drop m (address_text n)) before ∙ drop-append_seam (replicate (16 - length (digits 16 false n)) 48) (digits 16 false n)
