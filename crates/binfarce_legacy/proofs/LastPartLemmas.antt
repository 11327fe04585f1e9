-- Where the last part of a text of characters begins.
use Rattle.std.proofs.Common.{◌≡◌, ℕ, zero, suc, ◌+◌, ◌-◌, ◌<◌, Bool, true, false, eqb, not, List, [], ◌∷◌, ◌++◌, length, get_or, take, drop, Option, Some, None, MatchOption, refl, ap, sym, ◌∙◌, arith, length-append, append_assoc}
use Rattle.std.proofs.lemmas.Bool.{cond-true, cond-false, or_from, or_right}
use Rattle.std.proofs.Math.Seq.{take-append_seam}
use Rattle.std.proofs.lemmas.List.{take-append-drop, take_at, get_or_at, get_or-append_right, nil_from_length, append-nil}
use Rattle.std.proofs.lemmas.List.Sums.{suffix_len_is}
use Rattle.std.proofs.lemmas.Str.{encodes_same, encodes-append, length-le-encodes}
use Rattle.std.specs.List.{list_any, before_last, suffix_len}
use Rattle.std.specs.Str.{encode_utf8_all, NonePass, IsUtf8}
use Rattle.std.specs.Char.{encode_utf8}
use Rattle.binfarce_legacy.specs.Legacy.{without_last_part}

abbrev is_colon : ℕ → Bool
is_colon c = eqb c 58

list_any-none : (cs : List ℕ) → NonePass is_colon cs → list_any is_colon cs ≡ false
list_any-none [] h = refl
list_any-none (c ∷ cs) h = or_from _ _ h.0 (list_any-none cs h.1)

list_any-here : (front back : List ℕ) → list_any is_colon (front ++ 58 ∷ back) ≡ true
list_any-here [] back = refl
list_any-here (c ∷ front) back = or_right _ _ (list_any-here front back)

none_at : (cs : List ℕ) (k : ℕ) → NonePass is_colon cs → k < length cs → is_colon (get_or cs k 0) ≡ false
none_at [] k h l = absurd (omega (arith, l))
none_at (c ∷ cs) zero h l = h.0
none_at (c ∷ cs) (suc k) h l = none_at cs k h.1 (omega (arith, l))

-- with no `:`, all stays
pub without_last_part-none : (cs : List ℕ) → NonePass is_colon cs → without_last_part cs ≡ cs
unfolding without_last_part
without_last_part-none cs h = cond-false _ _ _ (list_any-none cs h)

-- the front of the last `:` loses its last character
pub without_last_part-split : (front back : List ℕ) → NonePass is_colon back → without_last_part (front ++ 58 ∷ back) ≡ take (length front - 1) front
unfolding without_last_part
without_last_part-split front back h =
    let all : List ℕ = front ++ 58 ∷ back in
    let n : ℕ = length front + 1 in
    let len : length all ≡ length front + (length back + 1) = length-append front (58 ∷ back) ∙ omega arith in
    let colon : get_or all (n - 1) 0 ≡ 58 = get_or_at front 58 back 0 (n - 1) (omega arith) in
    let suffix : suffix_len (λ x. not (is_colon x)) all ≡ length all - n =
    suffix_len_is (λ x. not (is_colon x)) all n 0 (omega (arith, len))
    (λ k low high. ap not (
    ap is_colon (get_or-append_right front (58 ∷ back) (length front) k 0 refl (omega (arith, low)) ∙ ap (λ j. get_or (58 ∷ back) j 0) (let e : k - length front ≡ suc (k - n) = omega (arith, low) in e))
    ∙ none_at back (k - n) h (omega (arith, low, high, len))))
    (λ _. ap (λ x. not (is_colon x)) colon) in
    let before : before_last is_colon all ≡ front =
    ap (λ k. take (length all - k - 1) all) suffix ∙ ap (λ k. take k all) (let e : length all - (length all - n) - 1 ≡ length front = omega (arith, len) in e) ∙ take_at front (58 ∷ back) (length front) refl in
    cond-true _ _ _ (list_any-here front back) ∙ ap (λ (x : List ℕ). take (length x - 1) x) before

-- a text without its last character
pub without_last : {X : Type 0} (cs : List ℕ) (s t : List ℕ) (r : Option ℕ) → encode_utf8_all cs ≡ s → IsUtf8 t
    → (X → t ≡ s) → MatchOption r ((length s ≡ 0) × X) (λ c. s ≡ t ++ encode_utf8 c)
    → t ≡ encode_utf8_all (take (length cs - 1) cs)
without_last cs s t None e u same h =
    let nil : cs ≡ [] = nil_from_length cs (omega (arith, length-le-encodes cs, ap length e, h.0)) in
    same h.1 ∙ sym e ∙ ap encode_utf8_all (nil ∙ sym (ap (λ (x : List ℕ). take (length x - 1) x) nil))
without_last cs s t (Some c) e u same h =
    let one : encode_utf8_all (c ∷ []) ≡ encode_utf8 c = append-nil (encode_utf8 c) in
    let split : cs ≡ u.0 ++ (c ∷ []) =
    encodes_same cs (u.0 ++ (c ∷ [])) (e ∙ h ∙ ap (λ (x : List ℕ). x ++ encode_utf8 c) (sym u.1.1) ∙ ap (λ (x : List ℕ). encode_utf8_all u.0 ++ x) (sym one) ∙ sym (encodes-append u.0 (c ∷ []))) in
    let len : length cs - 1 ≡ length u.0 = omega (arith, ap length split, length-append u.0 (c ∷ [])) in
    sym u.1.1 ∙ ap encode_utf8_all (sym (ap (λ k. take k cs) len ∙ ap (take (length u.0)) split ∙ take_at u.0 (c ∷ []) (length u.0) refl))

-- and a text without its last character is its beginning
pub front_of : {X : Type 0} (all s t : List ℕ) (k : ℕ) (r : Option ℕ) → s ≡ take k all → (X → t ≡ s) → MatchOption r ((length s ≡ 0) × X) (λ c. s ≡ t ++ encode_utf8 c) → t ≡ take (length t) all
front_of all s t k None e same h =
    let nil : t ≡ [] = nil_from_length t (omega (arith, ap length (same h.1), h.0)) in
    nil ∙ sym (ap (λ (x : List ℕ). take (length x) all) nil)
front_of all s t k (Some c) e same h =
    let split : all ≡ t ++ (encode_utf8 c ++ drop k all) =
    sym (take-append-drop k all) ∙ ap (λ (x : List ℕ). x ++ drop k all) (sym e ∙ h) ∙ append_assoc t (encode_utf8 c) (drop k all) in
    sym (ap (take (length t)) split ∙ take-append_seam t (encode_utf8 c ++ drop k all))

-- the characters of a text that a `:` splits
pub split_chars : (cs s front back : List ℕ) → s ≡ encode_utf8_all cs → s ≡ encode_utf8_all front ++ (encode_utf8 58 ++ encode_utf8_all back)
    → cs ≡ front ++ 58 ∷ back
split_chars cs s front back e h =
    encodes_same cs (front ++ 58 ∷ back) (sym e ∙ h ∙ sym (encodes-append front (58 ∷ back)))
