-- The address that a text begins with, and what comes after the text.
use Rattle.std.proofs.Common.{◌≡◌, ◌≢◌, false, true, Bool, ℕ, suc, ◌+◌, ◌-◌, ◌<◌, ◌≤◌, List, [], ◌∷◌, ◌++◌, length, drop, get_or, refl, sym, ◌∙◌, ap, subst, append-nil, arith}
use Rattle.std.specs.Prelude.{◌&&◌, ◌||◌, ◌==◌, max, nat_eq, nat_lt, not, if◌then◌else◌}
use Rattle.std.specs.Int.{is_in_range}
use Rattle.std.specs.Char.{is_ascii_hexdigit}
use Rattle.std.proofs.Math.Dec.{eqb}
use Rattle.std.proofs.Math.ListN.{get_or-append}
use Rattle.std.proofs.lemmas.Bool.{eqb-true, eqb-false, ltb-true}
use Rattle.std.proofs.lemmas.Bool.Decides.{nat_tests}
use Rattle.std.proofs.lemmas.List.Folds.{prefix_len-append}
use Rattle.binfarce_rows.specs.Address.{has_prefix}
use Rattle.binfarce_logs.specs.Word.{address_len, bare_len, digits_len, is_word_byte, least_digits, prefixed_len}
use Rattle.binfarce_logs.specs.machine.Words.{IsDecided, may_begin}

-- the lengths by their parts
abbrev len_of : (least : ℕ) → Bool → ℕ → ℕ
len_of least first digits = if first && is_in_range least 16 digits then 2 + digits else 0

abbrev bare_of : (before end digits : ℕ) → ℕ
bare_of before end digits = if is_in_range 8 16 digits && not (is_word_byte before || is_word_byte end) then digits else 0

many : (least digits : ℕ) → 16 < digits → is_in_range least 16 digits ≡ false
many least digits lt = grind (arith, nat_tests)

one_more : (t : Bool) (n m : ℕ) → n ≤ m → (if t then 1 + n else 0) ≤ suc m
one_more true n m le = omega (arith, le)
one_more false n m le = omega arith

no_more_than : (text : List ℕ) → digits_len text ≤ length text
no_more_than [] = omega arith
no_more_than (b ∷ text) = one_more (is_ascii_hexdigit b) (digits_len text) (length text) (no_more_than text)

-- digits up to the end of a text go on behind it, and others don't
goes_on : (text more : List ℕ) → eqb (digits_len text) (length text) ≡ true → digits_len (text ++ more) ≡ length text + digits_len more
goes_on text more all = prefix_len-append is_ascii_hexdigit text more ∙ rw all refl

stays : (text more : List ℕ) → eqb (digits_len text) (length text) ≡ false → digits_len (text ++ more) ≡ digits_len text
stays text more all = prefix_len-append is_ascii_hexdigit text more ∙ rw all refl

-- a byte that isn't `0x` and digits up to the end of a text, or is too many of them, decides
decided_front : (least : ℕ) (first : Bool) (digits more : List ℕ) → (first ≡ true → digits_len digits ≡ length digits → 16 < length digits) → len_of least first (digits_len (digits ++ more)) ≡ len_of least first (digits_len digits)
decided_front least false digits more is = refl
decided_front least true digits more is = by_end (eqb (digits_len digits) (length digits)) refl
  where
    by_end : (all : Bool) → eqb (digits_len digits) (length digits) ≡ all → len_of least true (digits_len (digits ++ more)) ≡ len_of least true (digits_len digits)
    by_end true all =
        let whole : digits_len digits ≡ length digits = eqb-true _ _ all in
        let long = goes_on digits more all in
        let lt = is refl whole in
        rw (many least (digits_len (digits ++ more)) (omega (arith, long, lt)), many least (digits_len digits) (omega (arith, whole, lt))) refl
    by_end false all = ap (λ n. len_of least true n) (stays digits more all)

decided_bare : (before : ℕ) (text more : List ℕ) → (digits_len text ≡ length text → 16 < length text)
    → bare_of before (get_or (text ++ more) (digits_len (text ++ more)) 0) (digits_len (text ++ more)) ≡ bare_of before (get_or text (digits_len text) 0) (digits_len text)
decided_bare before text more is = by_end (eqb (digits_len text) (length text)) refl
  where
    by_end : (all : Bool) → eqb (digits_len text) (length text) ≡ all
        → bare_of before (get_or (text ++ more) (digits_len (text ++ more)) 0) (digits_len (text ++ more)) ≡ bare_of before (get_or text (digits_len text) 0) (digits_len text)
    by_end true all =
        let whole : digits_len text ≡ length text = eqb-true _ _ all in
        let long = goes_on text more all in
        let lt = is whole in
        rw (many 8 (digits_len (text ++ more)) (omega (arith, long, lt)), many 8 (digits_len text) (omega (arith, whole, lt))) refl
    by_end false all =
        let same = stays text more all in
        let ne : digits_len text ≢ length text = eqb-false _ _ all in
        let within : digits_len text < length text = omega (arith, no_more_than text, ne) in
        let end : get_or (text ++ more) (digits_len (text ++ more)) 0 ≡ get_or text (digits_len text) 0 = ap (λ n. get_or (text ++ more) n 0) same ∙ get_or-append text more 0 (digits_len text) within in
        ap (λ n. bare_of before n (digits_len (text ++ more))) end ∙ ap (λ n. bare_of before (get_or text (digits_len text) 0) n) same

both : (bare : Bool) (before text more : List ℕ) → prefixed_len before (text ++ more) ≡ prefixed_len before text → (bare ≡ true → bare_len before (text ++ more) ≡ bare_len before text) → address_len bare before (text ++ more) ≡ address_len bare before text
both false before text more first second = ap (λ n. max n 0) first
both true before text more first second = ap (λ n. max n (bare_len before (text ++ more))) first ∙ ap (λ n. max (prefixed_len before text) n) (second refl)

-- what decides a text of two bytes or more
pub decided_more : (bare is_last : Bool) (text : List ℕ) → 1 < length text → (has_prefix text ≡ true → digits_len (drop 2 text) ≡ length text - 2 → 18 < length text)
    → (bare ≡ true → digits_len text ≡ length text → 16 < length text) → IsDecided bare is_last text
decided_more bare is_last [] some is bares before more follows = absurd (omega (arith, some))
decided_more bare is_last (b ∷ []) some is bares before more follows = absurd (omega (arith, some))
decided_more bare is_last (b ∷ c ∷ text) some is bares before more follows =
    both bare before (b ∷ c ∷ text) more
    (decided_front (least_digits before) (has_prefix (b ∷ c ∷ text)) text more (λ first all. let long = is first (omega (arith, all)) in omega (arith, long)))
    (λ are. decided_bare (get_or before (length before - 1) 0) (b ∷ c ∷ text) more (bares are))

-- no address begins with another byte
no_digit : (b : ℕ) → is_ascii_hexdigit b ≡ false → (48 == b) ≡ false
no_digit b none = by (48 == b) refl
  where
    by : (t : Bool) → (48 == b) ≡ t → (48 == b) ≡ false
    by false is = is
    by true is = absurd (subst (λ n. is_ascii_hexdigit n ≡ false → ⊥) (eqb-true 48 b is) (λ e. cc) none)

other : (b : ℕ) → nat_eq b 48 ≡ false → (48 == b) ≡ false
other b ne = grind (arith, nat_tests)

pub no_address : (bare : Bool) (before : List ℕ) (b : ℕ) (text : List ℕ) → may_begin bare b ≡ false → address_len bare before (b ∷ text) ≡ 0
no_address false before b text none = rw (other b none) refl
no_address true before b text none = rw (no_digit b none, none) refl

pub too_few : (digits n : ℕ) → nat_lt digits n ≡ true → digits ≡ n → ⊥
too_few digits n lt is = let below = ltb-true digits n lt in omega (arith, below, is)

-- nothing comes after the last text
pub decided_last : (bare : Bool) (text : List ℕ) → IsDecided bare true text
decided_last bare text before more follows = ap (λ (x : List ℕ). address_len bare before (text ++ x)) (follows refl) ∙ ap (address_len bare before) (append-nil text)

-- one byte that begins no address
pub decided_one : (bare is_last : Bool) (text : List ℕ) → length text ≡ 1 → may_begin bare (get_or text 0 0) ≡ false → IsDecided bare is_last text
decided_one bare is_last [] one none before more follows = absurd (omega (arith, one))
decided_one bare is_last (b ∷ []) one none before more follows = no_address bare before b more none ∙ sym (no_address bare before b [] none)
decided_one bare is_last (b ∷ c ∷ text) one none before more follows = absurd (omega (arith, one))

pub not_true : (b : Bool) → not b ≡ true → b ≡ false
not_true false is = refl
not_true true is = absurd cc

-- a prefix ends the digits
neither : (a x y : Bool) → x ≡ false → y ≡ false → (a && (x && true)) || (a && (y && true)) ≡ true → ⊥
neither a true y e f is = absurd cc
neither a false true e f is = absurd cc
neither true false false e f is = absurd cc
neither false false false e f is = absurd cc

no_hexdigit : (b c : ℕ) → ((48 == b) && ((120 == c) && true)) || ((48 == b) && ((88 == c) && true)) ≡ true → is_ascii_hexdigit c ≡ false
no_hexdigit b c is = by (120 == c) (88 == c) refl refl
  where
    by : (x y : Bool) → (120 == c) ≡ x → (88 == c) ≡ y → is_ascii_hexdigit c ≡ false
    by true y small large = subst (λ n. is_ascii_hexdigit n ≡ false) (eqb-true 120 c small) refl
    by false true small large = subst (λ n. is_ascii_hexdigit n ≡ false) (eqb-true 88 c large) refl
    by false false small large = absurd (neither (48 == b) (120 == c) (88 == c) small large is)

at_most_one : (first : Bool) (n : ℕ) → n ≡ 0 → (if first then 1 + n else 0) ≤ 1
at_most_one true n none = omega (arith, none)
at_most_one false n none = omega arith

pub prefix_is_short : (text : List ℕ) → has_prefix text ≡ true → 1 < length text → digits_len text ≡ length text → ⊥
prefix_is_short [] is some all = absurd (omega (arith, some))
prefix_is_short (b ∷ []) is some all = absurd (omega (arith, some))
prefix_is_short (b ∷ c ∷ text) is some all =
    let none : digits_len (c ∷ text) ≡ 0 = rw (no_hexdigit b c is) refl in
    let few : digits_len (b ∷ c ∷ text) ≤ 1 = at_most_one (is_ascii_hexdigit b) (digits_len (c ∷ text)) none in
    omega (arith, few, all)
