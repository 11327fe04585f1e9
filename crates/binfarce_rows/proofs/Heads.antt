-- The digits of the head of a line, put one by one from the last on.
use Rattle.std.proofs.Common.{◌≡◌, ℕ, zero, suc, ◌+◌, ◌-◌, ◌/◌, ◌%◌, ◌^◌, ◌<◌, ◌≤◌, inl, inr, List, [], ◌∷◌, ◌++◌, length, set, drop, take, false, eqb, if◌then◌else◌, refl, ap, sym, ◌∙◌, arith, replicate, append-nil, append_assoc, subst}
use Rattle.std.specs.Prelude.{nat_lt}
use Rattle.std.specs.Fmt.{digit_glyph, digits, digits_onto, decimal}
use Rattle.std.proofs.lemmas.List.{drop-set, take-set-le, set_split, length-drop, take-take, take-replicate}
use Rattle.std.proofs.lemmas.Fmt.{PrependsLastDigit, decimal_from_prepends, length-decimal-le, IsAscii-decimal}
use Rattle.std.proofs.lemmas.Bool.Decides.{nat_tests}
use Rattle.std.proofs.lemmas.Bool.{cases_eq, cond-true, cond-false, eq-eqb, ne_eqb}
use Rattle.std.proofs.lemmas.Grind.{pow_more}
use Rattle.std.specs.Str.{IsAscii, IsUtf8}
use Rattle.std.proofs.lemmas.Str.{IsAscii-append, IsUtf8-from_ascii}
use Rattle.std.proofs.lemmas.Str.Ascii.{IsAscii-nil, IsAscii-cons}
use Rattle.std.proofs.lemmas.Slice.{drop-append-drop}
use Rattle.std.proofs.Math.Seq.{take-append-add}
use Rattle.binfarce_rows.specs.Columns.{address_text, size_text, line_head}

-- the last k hexadecimal digits of a number, and then a text
pub hex_onto : ℕ → ℕ → List ℕ → List ℕ
hex_onto zero n text = text
hex_onto (suc k) n text = hex_onto k (n / 16) (digit_glyph false (n % 16) ∷ text)

pub hex_onto_step : (k at n digit : ℕ) (ds : List ℕ) → at ≡ suc k → k < length ds → digit ≡ digit_glyph false (n % 16) → hex_onto k (n / 16) (drop k (set ds k digit)) ≡ hex_onto at n (drop at ds)
unfolding hex_onto
hex_onto_step k at n digit ds is h e =
    rw (is, drop-set ds k digit h, e) (ap (λ i. hex_onto k (n / 16) (digit_glyph false (n % 16) ∷ drop i ds)) (let one : k + 1 ≡ suc k = omega arith in one))

repeat_more : (k x : ℕ) (text : List ℕ) → replicate k x ++ (x ∷ text) ≡ x ∷ (replicate k x ++ text)
repeat_more zero x text = refl
repeat_more (suc k) x text = ap (λ l. x ∷ l) (repeat_more k x text)

hex_onto_zeros : (k n : ℕ) (text : List ℕ) → n ≡ 0 → hex_onto k n text ≡ replicate k 48 ++ text
unfolding hex_onto
hex_onto_zeros zero n text z = refl
hex_onto_zeros (suc k) n text z =
    rw z (hex_onto_zeros k 0 (48 ∷ text) refl ∙ repeat_more k 48 text)

more_digits : (k n : ℕ) → n < 16 ^ suc k → (n / 16 ≡ 0 → ⊥) → (0 < k) × (n / 16 < 16 ^ k)
more_digits zero n small more = absurd (more (omega arith))
more_digits (suc k) n small more = (omega arith, omega (arith, pow_more 16 (suc k)))

hex_onto_padded : (k f n : ℕ) (text : List ℕ) → 0 < k → k ≤ f → n < 16 ^ k → hex_onto k n text ≡ replicate (k + length text - length (digits_onto f 16 false n text)) 48 ++ digits_onto f 16 false n text
unfolding hex_onto
hex_onto_padded zero f n text some fuel small = absurd (omega arith)
hex_onto_padded (suc k) zero n text some fuel small = absurd (omega arith)
hex_onto_padded (suc k) (suc f) n text some fuel small = elim (cases_eq (n / 16) 0) [
  | inl z ↦
      let last : digits_onto (suc f) 16 false n text ≡ digit_glyph false (n % 16) ∷ text = cond-true (eqb (n / 16) 0) _ _ (eq-eqb (n / 16) 0 z) in
      rw last (hex_onto_zeros k (n / 16) (digit_glyph false (n % 16) ∷ text) z ∙ ap (λ m. replicate m 48 ++ (digit_glyph false (n % 16) ∷ text)) (let m : k ≡ suc k + length text - suc (length text) = omega arith in m))
  | inr more ↦
      let on : digits_onto (suc f) 16 false n text ≡ digits_onto f 16 false (n / 16) (digit_glyph false (n % 16) ∷ text) = cond-false (eqb (n / 16) 0) _ _ (ne_eqb (n / 16) 0 more) in
      let rest : List ℕ = digits_onto f 16 false (n / 16) (digit_glyph false (n % 16) ∷ text) in
      let fits = more_digits k n small more in
      rw on (hex_onto_padded k f (n / 16) (digit_glyph false (n % 16) ∷ text) fits.0 (omega arith) fits.1 ∙ ap (λ m. replicate m 48 ++ rest) (let m : k + suc (length text) - length rest ≡ suc k + length text - length rest = omega arith in m))
]

pub hex_onto_address : (n : ℕ) → n < 2 ^ 64 → hex_onto 16 n [] ≡ address_text n
unfolding digits
hex_onto_address n small = hex_onto_padded 16 64 n [] (omega arith) (omega arith) small

pub hex_onto_ends : (k n : ℕ) (ds : List ℕ) → k ≤ 0 → hex_onto k n (drop k ds) ≡ ds
unfolding hex_onto
hex_onto_ends zero n ds h = refl
hex_onto_ends (suc k) n ds h = absurd (omega arith)

-- the decimal digits of a number of at most k digits, and then a text
pub decimal_onto : ℕ → ℕ → List ℕ → List ℕ
decimal_onto zero n text = text
decimal_onto (suc k) n text = if nat_lt n 10 then (48 + n) ∷ text else decimal_onto k (n / 10) ((48 + n % 10) ∷ text)

decimal_onto_one : (k n : ℕ) (text : List ℕ) → n < 10 → decimal_onto (suc k) n text ≡ (48 + n) ∷ text
unfolding decimal_onto
decimal_onto_one k n text h = grind (arith, nat_tests)

decimal_onto_more : (k n : ℕ) (text : List ℕ) → 10 ≤ n → decimal_onto (suc k) n text ≡ decimal_onto k (n / 10) ((48 + n % 10) ∷ text)
unfolding decimal_onto
decimal_onto_more k n text h = grind (arith, nat_tests)

decimal_onto_prepends : PrependsLastDigit decimal_onto
decimal_onto_prepends = record { one = decimal_onto_one; more = decimal_onto_more }

pub decimal_onto_decimal : (n : ℕ) → n < 10 ^ 10 → decimal_onto 10 n [] ≡ decimal n
decimal_onto_decimal n small =
    decimal_from_prepends decimal_onto decimal_onto_prepends 10 n [] (omega arith) (length-decimal-le 10 n (omega arith) small (omega arith)) ∙ append-nil (decimal n)

pub decimal_onto_step : (k at n digit : ℕ) (ds : List ℕ) → at ≡ suc k → at < length ds → 10 ≤ n → digit ≡ 48 + n % 10 → decimal_onto (k + 1) (n / 10) (drop (k + 1) (set ds at digit)) ≡ decimal_onto (at + 1) n (drop (at + 1) ds)
decimal_onto_step k at n digit ds is h more e =
    let next : k + 1 ≡ at = omega arith in
    let this : at + 1 ≡ suc at = omega arith in
    rw (next, drop-set ds at digit h, e) (sym (ap (λ m. decimal_onto m n (drop (at + 1) ds)) this ∙ decimal_onto_more at n (drop (at + 1) ds) more))

pub left_digits : (k n : ℕ) → n < 10 ^ (k + 1) → 10 ≤ n → (0 < k) × (n / 10 < 10 ^ k)
left_digits zero n small more = absurd (omega arith)
left_digits (suc k) n small more = (omega arith, omega (arith, pow_more 10 (suc k)))

-- the last digit is put, behind blanks
pub size_put : (at n size digit : ℕ) (ds : List ℕ) → length ds ≡ 10 → at ≤ 9 → n < 10 → digit ≡ 48 + n → take at ds ≡ replicate at 32 → decimal_onto (at + 1) n (drop (at + 1) ds) ≡ decimal size → set ds at digit ≡ size_text size
size_put at n size digit ds len within one e blanks left =
    let this : at + 1 ≡ suc at = omega arith in
    let shown : decimal size ≡ digit ∷ drop (suc at) ds = sym left ∙ ap (λ m. decimal_onto m n (drop m ds)) this ∙ decimal_onto_one at n (drop (suc at) ds) one ∙ ap (λ d. d ∷ drop (suc at) ds) (sym e) in
    let short : at ≡ 10 - length (decimal size) = omega (arith, ap length shown, length-drop (suc at) ds) in
    set_split ds at digit (omega arith) ∙ ap (λ front. front ++ (digit ∷ drop (suc at) ds)) (blanks ∙ ap (λ m. replicate m 32) short) ∙ ap (λ l. replicate (10 - length (decimal size)) 32 ++ l) (sym shown)

pub blanks_left : (k at digit : ℕ) (ds : List ℕ) → k ≤ at → take at ds ≡ replicate at 32 → take k (set ds at digit) ≡ replicate k 32
blanks_left k at digit ds h blanks =
    take-set-le k ds at digit h ∙ sym (take-take k at ds h) ∙ ap (take k) blanks ∙ take-replicate k at 32 h

pub size_init : (size : ℕ) (ds : List ℕ) → size < 10 ^ 10 → ds ≡ replicate 10 32 → decimal_onto 10 size (drop 10 ds) ≡ decimal size
size_init size ds small blanks = rw blanks (decimal_onto_decimal size small)

-- The head made of both

pub size_of_blanks : (shown head : List ℕ) → length shown ≡ 16 → head ≡ replicate 28 32 → take 10 (drop 17 (shown ++ drop 16 head)) ≡ replicate 10 32
size_of_blanks shown head len blanks =
    ap (take 10) (drop-append-drop 16 head shown 17 (omega arith) len) ∙ ap (λ l. take 10 (drop 17 l)) blanks

pub head_put : (address size : ℕ) (hex shown head : List ℕ) → length hex ≡ 16 → head ≡ replicate 28 32 → hex ≡ address_text address → shown ≡ size_text size → take 17 (hex ++ drop 16 head) ++ (shown ++ drop 10 (drop 17 (hex ++ drop 16 head))) ≡ line_head address size
head_put address size hex shown head len blanks e f =
    let front : take 17 (hex ++ drop 16 head) ≡ hex ++ (32 ∷ []) =
    ap (λ n. take n (hex ++ drop 16 head)) (let n : 17 ≡ length hex + 1 = omega arith in n)
    ∙ take-append-add hex (drop 16 head) 1 ∙ ap (λ l. hex ++ take 1 (drop 16 l)) blanks in
    let back : drop 10 (drop 17 (hex ++ drop 16 head)) ≡ 32 ∷ [] = ap (drop 10) (drop-append-drop 16 head hex 17 (omega arith) len) ∙ ap (λ l. drop 10 (drop 17 l)) blanks in
    ap (λ l. l ++ (shown ++ drop 10 (drop 17 (hex ++ drop 16 head)))) front
    ∙ ap (λ l. (hex ++ (32 ∷ [])) ++ (shown ++ l)) back
    ∙ append_assoc hex (32 ∷ []) (shown ++ (32 ∷ []))
    ∙ ap (λ l. l ++ (32 ∷ (shown ++ (32 ∷ [])))) e
    ∙ ap (λ l. address_text address ++ (32 ∷ (l ++ (32 ∷ [])))) f

glyph_is_ascii : (d : ℕ) → d < 16 → digit_glyph false d < 128
glyph_is_ascii d h = grind (arith, nat_tests)

hex_onto_is_ascii : (k n : ℕ) (text : List ℕ) → IsAscii text → IsAscii (hex_onto k n text)
unfolding hex_onto
hex_onto_is_ascii zero n text h = h
hex_onto_is_ascii (suc k) n text h =
    hex_onto_is_ascii k (n / 16) (digit_glyph false (n % 16) ∷ text) (IsAscii-cons (digit_glyph false (n % 16)) text (glyph_is_ascii (n % 16) (omega arith)) h)

blanks_are_ascii : (k : ℕ) → IsAscii (replicate k 32)
blanks_are_ascii zero = IsAscii-nil
blanks_are_ascii (suc k) = IsAscii-cons 32 (replicate k 32) (omega arith) (blanks_are_ascii k)

pub head_is_utf8 : (address size : ℕ) (head : List ℕ) → address < 2 ^ 64 → size < 2 ^ 64 → head ≡ line_head address size → IsUtf8 head
head_is_utf8 address size head fits small e =
    let blank : IsAscii (32 ∷ []) = IsAscii-cons 32 [] (omega arith) IsAscii-nil in
    let front : IsAscii (address_text address) = subst IsAscii (hex_onto_address address fits) (hex_onto_is_ascii 16 address [] IsAscii-nil) in
    let back : IsAscii (size_text size) = IsAscii-append _ _ (blanks_are_ascii (10 - length (decimal size))) (IsAscii-decimal size small) in
    rw e (IsUtf8-from_ascii _ (IsAscii-append (address_text address) _ front (IsAscii-append (32 ∷ []) _ blank (IsAscii-append (size_text size) (32 ∷ []) back blank))))
