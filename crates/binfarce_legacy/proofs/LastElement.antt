-- A last element whose name denotes itself: the text without its last part is what was written before it.
use Rattle.std.proofs.Common.{◌≡◌, ℕ, zero, suc, ◌+◌, ◌-◌, ◌<◌, Bool, true, false, eqb, not, ◌&&◌, ◌||◌, List, [], ◌∷◌, ◌++◌, length, get_or, drop, take, codes, refl, ap, sym, ◌∙◌, arith, append_assoc, append-nil, length-append}
use Rattle.std.specs.Prelude.{nat_eq}
use Rattle.std.proofs.lemmas.Bool.{cond-true, or_parts, eq-eqb, ne_eqb}
use Rattle.std.proofs.lemmas.List.{append_cancel_left, drop-drop, get_or-drop}
use Rattle.std.proofs.lemmas.List.Sums.{prefix_len_passes}
use Rattle.std.proofs.lemmas.Str.{encodes-append, encodes-IsAscii, encodes_same}
use Rattle.std.proofs.lemmas.Str.Ascii.{IsAscii-cons, IsAscii-nil}
use Rattle.std.proofs.Math.Seq.{take-append_seam, take-length, drop-length}
use Rattle.std.specs.Char.{is_ascii_digit}
use Rattle.std.specs.List.{list_any, prefix_len, starts_with}
use Rattle.std.specs.Str.{IsAscii, NonePass, encode_utf8_all}
use Rattle.std.specs.Str.Parse.{digits_value}
use Rattle.binfarce_legacy.specs.Legacy.{Element, name_chars, legacy_chars, without_last_part}
use Rattle.binfarce_legacy.specs.machine.Reading.{is_mark, is_plain, chars_left, name_start, name_end, HasElement}
use Rattle.binfarce_legacy.proofs.Left.{IsLeft}
use Rattle.binfarce_legacy.proofs.ElementLemmas.{not_digit}
use Rattle.binfarce_legacy.proofs.JoinLemmas.{separator, separator-later, left_step, left_at_end}
use Rattle.binfarce_legacy.proofs.LastPartLemmas.{without_last_part-split}
use Rattle.binfarce_legacy.proofs.PieceLemmas.{chars_left-plain, chars_left-nil, name_chars-unmarked}

-- A byte that is no mark

not_mark : (b : ℕ) → is_mark b ≡ false → (eqb b 46 ≡ false) × ((eqb b 36 ≡ false) × (eqb b 58 ≡ false))
not_mark b h = let p = or_parts (eqb b 46) _ h in (p.0, or_parts (eqb b 36) (eqb b 58) p.1)

plain_of : (x y : Bool) → x ≡ false → y ≡ false → not x && not y ≡ true
plain_of x y h k = rw (h, k) refl

plain_byte : (b : ℕ) → is_mark b ≡ false → is_plain b ≡ true
plain_byte b h = let n = not_mark b h in plain_of (eqb b 46) (eqb b 36) n.0 n.1.0

no_colon : (name : List ℕ) → list_any is_mark name ≡ false → NonePass (λ c. eqb c 58) name
no_colon [] h = tt
no_colon (b ∷ name) h =
    let p = or_parts (is_mark b) (list_any is_mark name) h in ((not_mark b p.0).1.1, no_colon name p.1)

all_plain : (name : List ℕ) → list_any is_mark name ≡ false → prefix_len is_plain name ≡ length name
all_plain [] h = refl
all_plain (b ∷ name) h =
    let p = or_parts (is_mark b) (list_any is_mark name) h in
    cond-true (is_plain b) (1 + prefix_len is_plain name) 0 (plain_byte b p.0) ∙ ap (λ n. 1 + n) (all_plain name p.1) ∙ (let e : 1 + length name ≡ suc (length name) = omega arith in e)

swapped : (a b : ℕ) → eqb a b ≡ false → eqb b a ≡ false
swapped a b h = ne_eqb b a (λ e. let same = eq-eqb a b (sym e) in (cc))

both_false : (x y : Bool) → y ≡ false → x && y ≡ false
both_false true y h = h
both_false false y h = refl

unmarked : (name : List ℕ) → list_any is_mark name ≡ false → starts_with nat_eq name (codes "_$") ≡ false
unmarked [] h = refl
unmarked (a ∷ []) h = both_false (eqb 95 a) false refl
unmarked (a ∷ (b ∷ name)) h =
    let p = or_parts (is_mark a) (list_any is_mark (b ∷ name)) h in
    let q = or_parts (is_mark b) (list_any is_mark name) p.1 in
    both_false (eqb 95 a) (eqb 36 b && true) (ap (λ x. x && true) (swapped b 36 (not_mark b q.0).1.0))

-- a name without a mark denotes itself
unescaped : (name : List ℕ) → list_any is_mark name ≡ false → name_chars name ≡ name
unescaped name h =
    name_chars-unmarked name (unmarked name h) ∙ chars_left-plain name
    ∙ ap (λ n. take n name ++ chars_left (drop n name)) (all_plain name h)
    ∙ ap (λ l. take (length name) name ++ chars_left l) (drop-length name)
    ∙ ap (λ l. take (length name) name ++ l) chars_left-nil
    ∙ append-nil (take (length name) name) ∙ take-length name

colons : (name : List ℕ) → encode_utf8_all (58 ∷ 58 ∷ name) ≡ codes "::" ++ encode_utf8_all name
colons name =
    encodes-append (58 ∷ 58 ∷ []) name
    ∙ ap (λ (x : List ℕ). x ++ encode_utf8_all name) (encodes-IsAscii (58 ∷ 58 ∷ []) (IsAscii-cons 58 (58 ∷ []) (omega arith) (IsAscii-cons 58 [] (omega arith) IsAscii-nil)))

without_name : (chars name : List ℕ) → NonePass (λ c. eqb c 58) name → without_last_part (chars ++ (58 ∷ 58 ∷ name)) ≡ chars
without_name chars name none =
    let front : List ℕ = chars ++ (58 ∷ []) in
    let len : length front - 1 ≡ length chars = omega (arith, length-append chars (58 ∷ [])) in
    ap without_last_part (sym (append_assoc chars (58 ∷ []) (58 ∷ name)))
    ∙ without_last_part-split front name none
    ∙ ap (λ n. take n front) len ∙ take-append_seam chars (58 ∷ [])

pub left_out : (part : List ℕ) (at end : ℕ) (before printed name : List ℕ) (elements : List Element) (rest : List ℕ) (left : List Element)
    → IsLeft part at before printed elements rest left → HasElement (drop at part) → end ≡ at + name_end (drop at part)
    → name ≡ take (digits_value 10 (take (name_start (drop at part)) (drop at part))) (drop (name_start (drop at part)) (drop at part))
    → IsAscii name → 0 < at → get_or part end 0 ≡ 69 → list_any is_mark name ≡ false
    → printed ≡ before ++ encode_utf8_all (without_last_part (legacy_chars elements))
unfolding name_start
left_out part at end before printed name elements rest left is has ends named ascii later last plain =
    let chars : List ℕ = is.printed_is.0 in
    let more : List ℕ = (printed ++ separator at) ++ encode_utf8_all (name_chars name) in
    let step = left_step part at end before printed more name elements rest left is has ends named refl in
    let first : get_or (drop end part) 0 0 ≡ 69 = get_or-drop end part 0 0 ∙ ap (λ k. get_or part k 0) (let e : end + 0 ≡ end = omega arith in e) ∙ last in
    let none : HasElement (drop end part) → ⊥ = λ h. not_digit (get_or (drop end part) 0 0) first (prefix_len_passes is_ascii_digit (drop end part) 0 0 h.0) in
    let all : more ≡ before ++ encode_utf8_all (legacy_chars elements) = left_at_end part end before more elements rest step.0 step.1 none in
    let shown : encode_utf8_all (name_chars name) ≡ encode_utf8_all name = ap encode_utf8_all (unescaped name plain) in
    let wrote : more ≡ before ++ encode_utf8_all (chars ++ (58 ∷ 58 ∷ name)) =
    append_assoc printed (separator at) (encode_utf8_all (name_chars name))
    ∙ ap (λ (x : List ℕ). x ++ (separator at ++ encode_utf8_all (name_chars name))) is.printed_is.1
    ∙ append_assoc before (encode_utf8_all chars) (separator at ++ encode_utf8_all (name_chars name))
    ∙ ap (λ (x : List ℕ). before ++ (encode_utf8_all chars ++ (x ++ encode_utf8_all (name_chars name)))) (separator-later at later)
    ∙ ap (λ (x : List ℕ). before ++ (encode_utf8_all chars ++ (codes "::" ++ x))) (shown)
    ∙ ap (λ (x : List ℕ). before ++ (encode_utf8_all chars ++ x)) (sym (colons name))
    ∙ ap (λ (x : List ℕ). before ++ x) (sym (encodes-append chars (58 ∷ 58 ∷ name))) in
    let same : legacy_chars elements ≡ chars ++ (58 ∷ 58 ∷ name) =
    encodes_same (legacy_chars elements) (chars ++ (58 ∷ 58 ∷ name)) (append_cancel_left before (encode_utf8_all (legacy_chars elements)) (encode_utf8_all (chars ++ (58 ∷ 58 ∷ name))) (sym all ∙ wrote)) in
    is.printed_is.1 ∙ ap (λ (x : List ℕ). before ++ encode_utf8_all x) (sym (ap without_last_part same ∙ without_name chars name (no_colon name plain)))

-- Marks, some bytes at a time

or_more : (m x y z : Bool) → x ≡ y || z → m || x ≡ (m || y) || z
or_more true x y z e = refl
or_more false x y z e = e

any_split : (n : ℕ) (bytes : List ℕ) → list_any is_mark bytes ≡ list_any is_mark (take n bytes) || list_any is_mark (drop n bytes)
any_split zero bytes = refl
any_split (suc n) [] = refl
any_split (suc n) (b ∷ bytes) = or_more (is_mark b) _ _ _ (any_split n bytes)

pub no_mark_more : (bytes : List ℕ) (at n k : ℕ) → k ≡ n → list_any is_mark (take k (drop at bytes)) ≡ false → list_any is_mark (drop at bytes) ≡ list_any is_mark (drop (at + n) bytes)
no_mark_more bytes at n k is none =
    any_split n (drop at bytes)
    ∙ ap (λ b. b || list_any is_mark (drop n (drop at bytes))) (ap (λ m. list_any is_mark (take m (drop at bytes))) (sym is) ∙ none)
    ∙ ap (list_any is_mark) (drop-drop n at bytes)

pub mark_here : (bytes : List ℕ) (at k : ℕ) → list_any is_mark (take k (drop at bytes)) ≡ true → list_any is_mark (drop at bytes) ≡ true
mark_here bytes at k some =
    any_split k (drop at bytes) ∙ ap (λ b. b || list_any is_mark (drop k (drop at bytes))) some
