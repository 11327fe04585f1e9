-- The digits of a disambiguator, put one by one from the last on.
use Rattle.std.proofs.Common.{◌≡◌, ℕ, zero, suc, ◌+◌, ◌/◌, ◌%◌, ◌^◌, ◌<◌, ◌≤◌, inl, inr, List, [], ◌∷◌, ◌++◌, length, set, drop, true, false, eqb, ap, sym, ◌∙◌, arith}
use Rattle.std.specs.Fmt.{digit_glyph, digits, digits_onto}
use Rattle.std.proofs.lemmas.List.{drop-set}
use Rattle.std.proofs.Math.ListN.{length-set}
use Rattle.std.proofs.lemmas.Bool.Decides.{nat_tests}
use Rattle.std.proofs.lemmas.Bool.{cases_eq, cond-true, cond-false, eq-eqb, ne_eqb}
use Rattle.std.proofs.lemmas.Grind.{pow_more}
use Rattle.std.specs.Str.{IsAscii, IsUtf8}
use Rattle.std.proofs.lemmas.Str.{IsAscii-append, IsUtf8-from_ascii}
use Rattle.std.proofs.lemmas.Str.Ascii.{IsAscii-nil, IsAscii-cons}
use Rattle.binfarce_v0_state.specs.LeafTexts.{disambiguator_text}

-- the hexadecimal digits of a number of at most k digits, and then a text
pub hex_onto : ℕ → ℕ → List ℕ → List ℕ
hex_onto k n text = digits_onto k 16 false n text

last_onto : (k n : ℕ) (text : List ℕ) → n / 16 ≡ 0 → digits_onto (suc k) 16 false n text ≡ digit_glyph false (n % 16) ∷ text
last_onto k n text z = cond-true (eqb (n / 16) 0) _ _ (eq-eqb (n / 16) 0 z)

more_onto : (k n : ℕ) (text : List ℕ) → (n / 16 ≡ 0 → ⊥) → digits_onto (suc k) 16 false n text ≡ digits_onto k 16 false (n / 16) (digit_glyph false (n % 16) ∷ text)
more_onto k n text ne = cond-false (eqb (n / 16) 0) _ _ (ne_eqb (n / 16) 0 ne)

pub left_digits : (k n : ℕ) → n < 16 ^ suc k → 16 ≤ n → (0 < k) × (n / 16 < 16 ^ k)
left_digits zero n small more = absurd (omega arith)
left_digits (suc k) n small more = (omega arith, omega (arith, pow_more 16 (suc k)))

onto_digits : (k f n : ℕ) (shown text : List ℕ) → 0 < k → k ≤ f → n < 16 ^ k → digits_onto k 16 false n (shown ++ text) ≡ digits_onto f 16 false n shown ++ text
onto_digits zero f n shown text some fuel small = absurd (omega arith)
onto_digits (suc k) zero n shown text some fuel small = absurd (omega arith)
onto_digits (suc k) (suc f) n shown text some fuel small = elim (cases_eq (n / 16) 0) [
  | inl z ↦ last_onto k n (shown ++ text) z ∙ ap (λ l. l ++ text) (sym (last_onto f n shown z))
  | inr ne ↦
      let fits = left_digits k n small (omega arith) in
      more_onto k n (shown ++ text) ne
      ∙ onto_digits k f (n / 16) (digit_glyph false (n % 16) ∷ shown) text fits.0 (omega arith) fits.1
      ∙ ap (λ l. l ++ text) (sym (more_onto f n shown ne))
]

pub hex_onto_digits : (n : ℕ) (text : List ℕ) → n < 2 ^ 64 → hex_onto 16 n text ≡ digits 16 false n ++ text
unfolding hex_onto digits
hex_onto_digits n text small = onto_digits 16 64 n [] text (omega arith) (omega arith) small

pub hex_onto_step : (k at n digit : ℕ) (ds : List ℕ) → at ≡ suc k → at < length ds → 16 ≤ n → digit ≡ digit_glyph false (n % 16) → hex_onto k (n / 16) (drop (k + 1) (set ds at digit)) ≡ hex_onto at n (drop (at + 1) ds)
unfolding hex_onto
hex_onto_step k at n digit ds is h more e =
    let next : k + 1 ≡ at = omega arith in
    rw (next, drop-set ds at digit h, e) (sym (ap (λ m. digits_onto m 16 false n (drop (at + 1) ds)) is ∙ more_onto k n (drop (at + 1) ds) (omega arith)))

pub shown_is : (k at n value digit : ℕ) (ds : List ℕ) → at ≡ suc k → at ≤ 16 → length ds ≡ 18 → n < 16 → value < 2 ^ 64 → digit ≡ digit_glyph false n
    → hex_onto at n (drop (at + 1) ds) ≡ hex_onto 16 value (93 ∷ []) → drop k (set (set ds at digit) k 91) ≡ disambiguator_text true value
unfolding hex_onto
shown_is k at n value digit ds is within len one fits e left =
    let one_digit : n % 16 ≡ n = omega arith in
    let next : k + 1 ≡ at = omega arith in
    let last : hex_onto at n (drop (at + 1) ds) ≡ digit ∷ drop (at + 1) ds =
    ap (λ m. digits_onto m 16 false n (drop (at + 1) ds)) is ∙ last_onto k n (drop (at + 1) ds) (omega arith)
    ∙ ap (λ d. digit_glyph false d ∷ drop (at + 1) ds) one_digit ∙ ap (λ d. d ∷ drop (at + 1) ds) (sym e) in
    drop-set (set ds at digit) k 91 (rw (length-set) (omega arith))
    ∙ ap (λ m. 91 ∷ drop m (set ds at digit)) next
    ∙ ap (λ l. 91 ∷ l) (drop-set ds at digit (omega arith))
    ∙ ap (λ l. 91 ∷ l) (sym last ∙ left ∙ hex_onto_digits value (93 ∷ []) fits)

glyph_is_ascii : (d : ℕ) → d < 16 → digit_glyph false d < 128
glyph_is_ascii d h = grind (arith, nat_tests)

onto_is_ascii : (k n : ℕ) (text : List ℕ) → IsAscii text → IsAscii (digits_onto k 16 false n text)
onto_is_ascii zero n text h = h
onto_is_ascii (suc k) n text h = elim (cases_eq (n / 16) 0) [
  | inl z ↦ rw (last_onto k n text z) (IsAscii-cons (digit_glyph false (n % 16)) text (glyph_is_ascii (n % 16) (omega arith)) h)
  | inr ne ↦ rw (more_onto k n text ne) (onto_is_ascii k (n / 16) (digit_glyph false (n % 16) ∷ text) (IsAscii-cons (digit_glyph false (n % 16)) text (glyph_is_ascii (n % 16) (omega arith)) h))
]

pub shown_is_utf8 : (n : ℕ) (shown : List ℕ) → shown ≡ disambiguator_text true n → IsUtf8 shown
unfolding digits
shown_is_utf8 n shown e =
    let end : IsAscii (93 ∷ []) = IsAscii-cons 93 [] (omega arith) IsAscii-nil in
    let text : IsAscii (disambiguator_text true n) = IsAscii-cons 91 _ (omega arith) (IsAscii-append (digits 16 false n) (93 ∷ []) (onto_is_ascii 64 n [] IsAscii-nil) end) in
    rw e (IsUtf8-from_ascii _ text)
