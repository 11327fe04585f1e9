-- What a run of bytes is as a text.
use Rattle.std.proofs.Common.{◌≡◌, ◌≢◌, ℕ, suc, ◌+◌, ◌-◌, ◌<◌, ◌≤◌, Bool, true, false, cond, eqb, ltb, List, [], ◌∷◌, ◌++◌, length, get_or, take, drop, Option, Some, None, refl, sym, ap, subst, ◌∙◌, arith}
use Rattle.std.specs.Option.{option_and_then}
use Rattle.std.specs.List.{position_or_len}
use Rattle.std.specs.Str.{IsUtf8, is_utf8}
use Rattle.std.proofs.Math.Seq.{drop-cons}
use Rattle.std.proofs.lemmas.Str.{IsUtf8-from_is_utf8, is_utf8-from_IsUtf8}
use Rattle.std.proofs.lemmas.Bool.{lt-ltb, ltb-true, eqb-true, eq-eqb, false≢true}
use Rattle.std.proofs.lemmas.List.{take-append-drop, length-take, length-append, get_or-take, get_or_default, take_at, take-take, drop-drop, drop-take, length-drop, get_or_append_left, get_or-append_right}
use Rattle.std.proofs.lemmas.List.Quantifiers.{position-Some}
use Rattle.std.proofs.lemmas.List.Sums.{position_or_len_is}
use Rattle.std.proofs.lemmas.List.Elements.{All-same}
use Rattle.binfarce_bytes.specs.Number.{bytes_at}
use Rattle.binfarce_bytes.specs.Text.{nul_at, utf8_of, text_of, text_at, IsTextAt, FindsText}

pub utf8_is : (bytes : List ℕ) → IsUtf8 bytes → utf8_of bytes ≡ Some bytes
utf8_is bytes utf8 = rw (is_utf8-from_IsUtf8 bytes utf8) refl

not_utf8 : (bytes : List ℕ) (b : Bool) → is_utf8 bytes ≡ b → ¬ (IsUtf8 bytes) → b ≡ false
not_utf8 bytes true e h = absurd (h (IsUtf8-from_is_utf8 bytes e))
not_utf8 bytes false e h = refl

pub utf8_none : (bytes : List ℕ) → ¬ (IsUtf8 bytes) → utf8_of bytes ≡ None
utf8_none bytes h = rw (not_utf8 bytes (is_utf8 bytes) refl h) refl

-- the first n bytes, of which there is one, are a text where they are UTF-8
pub text_of_is : (bytes : List ℕ) (n : ℕ) → 0 < n → n ≤ length bytes → text_of (take n bytes) ≡ utf8_of (take n bytes)
text_of_is bytes n some whole = rw (lt-ltb 0 (length (take n bytes)) (omega (arith, length-take n bytes))) refl

abbrev is_nul : ℕ → Bool
is_nul b = eqb b 0

taken : (bytes text : List ℕ) → text_of bytes ≡ Some text → (text ≡ bytes) × (0 < length bytes) × IsUtf8 bytes
taken bytes text e = by_tests (ltb 0 (length bytes)) (is_utf8 bytes) refl refl e
  where
    by_tests : (some utf8 : Bool) → ltb 0 (length bytes) ≡ some → is_utf8 bytes ≡ utf8 → cond some (cond utf8 (Some bytes) None) None ≡ Some text → (text ≡ bytes) × (0 < length bytes) × IsUtf8 bytes
    by_tests true true s u e = (cc, ltb-true 0 (length bytes) s, IsUtf8-from_is_utf8 bytes u)
    by_tests true false s u e = absurd cc
    by_tests false utf8 s u e = absurd cc

not_nul : (b : ℕ) → is_nul b ≡ false → b ≢ 0
not_nul b e z = absurd (false≢true (sym e ∙ eq-eqb b 0 z))

nul_not : (b : ℕ) → b ≢ 0 → is_nul b ≡ false
nul_not b ne = by_test (is_nul b) refl
  where
    by_test : (t : Bool) → is_nul b ≡ t → t ≡ false
    by_test true e = absurd (ne (eqb-true b 0 e))
    by_test false e = refl

-- the bytes up to the first NUL are a text there
occurs_to_nul : (bytes : List ℕ) (start n : ℕ) (text : List ℕ) → nul_at (drop start bytes) ≡ Some n → text_of (take n (drop start bytes)) ≡ Some text → IsTextAt bytes start text
occurs_to_nul bytes start n text at e =
    let xs = drop start bytes in
    let p = position-Some is_nul xs n 1 at in
    let t = taken (take n xs) text e in
    let nul : get_or xs n 1 ≡ 0 = eqb-true (get_or xs n 1) 0 p.1 in
    let whole : xs ≡ take n xs ++ 0 ∷ drop (suc n) xs = sym (take-append-drop n xs) ∙ ap (λ (ys : List ℕ). take n xs ++ ys) (drop-cons xs n 1 p.0 ∙ ap (λ (b : ℕ). b ∷ drop (suc n) xs) nul) in
    record {
      occurs = (drop (suc n) xs, whole ∙ ap (λ (ys : List ℕ). ys ++ 0 ∷ drop (suc n) xs) (sym t.0));
      no_nul = All-same (λ (b : ℕ). b ≢ 0) text (take n xs) t.0 (λ k d lt. let below : k < n = omega (arith, length-take n xs) in not_nul (get_or (take n xs) k d) (rw (get_or-take n xs k d below) (rw (get_or_default xs k d 1 (omega arith)) (p.2 k below))));
      utf8 = subst IsUtf8 (sym t.0) t.2;
      not_empty = λ empty. absurd (omega (arith, t.1, ap length (sym t.0 ∙ empty)));
    }

not_empty : (text : List ℕ) → text ≢ [] → 0 < length text
not_empty [] ne = absurd (ne refl)
not_empty (b ∷ text) ne = omega arith

-- the text at an offset is the one that is found
pub only_text : (bytes : List ℕ) (start : ℕ) (text : List ℕ) → IsTextAt bytes start text → text_at bytes start ≡ Some text
unfolding text_at
only_text bytes start text h =
    let xs = drop start bytes in
    let n = length text in
    let rest = h.occurs.0 in
    let whole : xs ≡ text ++ 0 ∷ rest = h.occurs.1 in
    let long : n < length xs = omega (arith, ap length whole, length-append text (0 ∷ rest)) in
    let before : (k : ℕ) → k < n → is_nul (get_or xs k 1) ≡ false =
    λ k lt. nul_not (get_or xs k 1) (rw whole (rw (get_or_append_left text (0 ∷ rest) 1 k lt) (h.no_nul k 1 lt))) in
    let at_end : get_or xs n 1 ≡ 0 = ap (λ (ys : List ℕ). get_or ys n 1) whole ∙ get_or-append_right text (0 ∷ rest) n n 1 refl (omega arith) ∙ ap (λ (k : ℕ). get_or (0 ∷ rest) k 1) (nothing n) in
    let first : position_or_len is_nul xs ≡ n = position_or_len_is is_nul xs n 1 (omega arith) before (λ _. eq-eqb (get_or xs n 1) 0 at_end) in
    let at : nul_at xs ≡ Some n = rw (first, lt-ltb n (length xs) long) refl in
    let taken_is : take n xs ≡ text = ap (take n) whole ∙ take_at text (0 ∷ rest) n refl in
    let some : 0 < n = not_empty text h.not_empty in
    ap (option_and_then (λ (k : ℕ). text_of (take k xs))) at ∙ text_of_is xs n some (omega arith) ∙ utf8_is (take n xs) (subst IsUtf8 (sym taken_is) h.utf8) ∙ ap (λ (t : List ℕ). Some t) taken_is
  where
    nothing : (k : ℕ) → k - k ≡ 0
    nothing k = omega arith

-- what is found is there
pub found_text : (bytes : List ℕ) (start : ℕ) (text : List ℕ) → text_at bytes start ≡ Some text → IsTextAt bytes start text
unfolding text_at
found_text bytes start text e = by_place (nul_at (drop start bytes)) refl e
  where
    by_place : (o : Option ℕ) → nul_at (drop start bytes) ≡ o → option_and_then (λ (k : ℕ). text_of (take k (drop start bytes))) o ≡ Some text → IsTextAt bytes start text
    by_place (Some n) at e = occurs_to_nul bytes start n text at e
    by_place None at e = absurd cc

pub finds_text : (bytes : List ℕ) (start : ℕ) (o : Option (List ℕ)) → o ≡ text_at bytes start → FindsText bytes start o
finds_text bytes start (Some text) e = found_text bytes start text (sym e)
finds_text bytes start None e = λ text h. cc (e, only_text bytes start text h)

-- a text in a part of a file is in the file
pub part_occurs : (file : List ℕ) (at size start : ℕ) (text : List ℕ) → IsTextAt (bytes_at file at size) start text → bytes_at file (at + start) (length text) ≡ text
part_occurs file at size start text h =
    let n = length text in
    let rest = h.occurs.0 in
    let whole : drop start (take size (drop at file)) ≡ text ++ 0 ∷ rest = h.occurs.1 in
    let some : 0 < n = not_empty text h.not_empty in
    let long : start + n < size = omega (arith, ap length whole, length-append text (0 ∷ rest), length-drop start (take size (drop at file)), length-take size (drop at file)) in
    let xs = drop at file in
    let m = size - start in
    let split : start + m ≡ size = omega (arith, length-drop at file, length-take size xs) in
    ap (take n) (sym (drop-drop start at file))
    ∙ sym (take-take n m (drop start xs) (omega arith))
    ∙ ap (take n) (sym (drop-take start m xs) ∙ ap (λ (k : ℕ). drop start (take k xs)) split ∙ whole)
    ∙ take_at text (0 ∷ rest) n refl
