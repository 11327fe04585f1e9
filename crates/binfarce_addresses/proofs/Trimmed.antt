-- Lines with white space around an address, and what is kept of a line's first part.
use Rattle.std.proofs.Common.{◌≡◌, ◌≢◌, inl, inr, ◌⊎◌, ℕ, zero, suc, ◌+◌, ◌-◌, ◌<◌, min, Bool, true, false, cond, ◌&&◌, ◌||◌, eqb, true≢false, nat_eq, List, [], ◌∷◌, ◌++◌, length, drop, take, reverse, get_or, Some, None, if◌then◌else◌, refl, sym, ap, subst, ◌∙◌, arith, length-append, length-drop}
use Rattle.std.specs.Prelude.{◌==◌}
use Rattle.std.specs.Char.{is_ascii_hexdigit, is_ascii_whitespace}
use Rattle.std.specs.Int.{is_in_range}
use Rattle.std.specs.List.{list_all, prefix_len, suffix_len}
use Rattle.std.specs.Str.{IsTrimAsciiEnd}
use Rattle.std.specs.Str.Parse.{digits_value}
use Rattle.std.proofs.Math.Seq.{drop-append-add, take-append-add}
use Rattle.std.proofs.lemmas.Bool.{cases_lt}
use Rattle.std.proofs.lemmas.Bool.Decides.{nat_tests}
use Rattle.std.proofs.lemmas.List.{drop-append-le, take-append-le, take_all, take-append-drop, length-take-le, length-reverse, reverse-append, get_or-take, get_or-drop, get_or_append_left}
use Rattle.std.proofs.lemmas.List.Elements.{All-nil, All-cons, All-take, All-drop}
use Rattle.std.proofs.lemmas.List.Folds.{list_all_at, prefix_len-append}
use Rattle.std.proofs.lemmas.List.Sums.{prefix_len_stops, prefix_len_passes, prefix_len-le-length, suffix_len_is, suffix_len-le-length}
use Rattle.std.proofs.lemmas.Str.Ascii.{trim_ascii_end_is}
use Rattle.binfarce_rows.specs.Address.{address_of, has_prefix, hexadecimal}
use Rattle.binfarce_addresses.specs.Stream.{line_address, trim_start, trim_end, HasNoLineFeed}
use Rattle.binfarce_addresses.specs.machine.Answering.{IsKeptOf}

-- white space is no digit
no_digit : (byte : ℕ) → is_ascii_whitespace byte ≡ true → is_ascii_hexdigit byte ≡ false
no_digit byte e = grind (arith, nat_tests)

tested : (digits : List ℕ) (a b : Bool) → b ≡ false → (if a && b then Some (digits_value 16 digits) else None) ≡ None
tested digits a true e = absurd cc
tested digits true false e = refl
tested digits false false e = refl

-- digits have no white space
white_digits : (digits : List ℕ) (i : ℕ) → i < length digits → is_ascii_whitespace (get_or digits i 0) ≡ true → hexadecimal digits ≡ None
white_digits digits i lt e = tested digits (is_in_range 1 16 (length digits)) (list_all is_ascii_hexdigit digits) (list_all_at is_ascii_hexdigit digits i 0 lt (no_digit (get_or digits i 0) e))

-- nor has `0x`, and an address has none
pub white_none : (word : List ℕ) (i : ℕ) → i < length word → is_ascii_whitespace (get_or word i 0) ≡ true → address_of word ≡ None
white_none [] i lt e = absurd (omega arith)
white_none (a ∷ []) i lt e = by (has_prefix (a ∷ []))
  where
    by : (b : Bool) → hexadecimal (if b then [] else a ∷ []) ≡ None
    by true = refl
    by false = white_digits (a ∷ []) i lt e
white_none (a ∷ b ∷ others) i lt e = by (has_prefix (a ∷ b ∷ others)) refl i lt e
  where
    begins : (a b : ℕ) → ((nat_eq 48 a && (nat_eq 120 b && true)) || (nat_eq 48 a && (nat_eq 88 b && true))) ≡ true → (a ≡ 48) × ((b ≡ 120) ⊎ (b ≡ 88))
    begins a b e = grind (arith, nat_tests)

    by : (t : Bool) → has_prefix (a ∷ b ∷ others) ≡ t → (i : ℕ) → i < length (a ∷ b ∷ others) → is_ascii_whitespace (get_or (a ∷ b ∷ others) i 0) ≡ true → hexadecimal (if t then others else a ∷ b ∷ others) ≡ None
    by false is i lt e = white_digits (a ∷ b ∷ others) i lt e
    by true is zero lt e = absurd (true≢false (sym e ∙ ap is_ascii_whitespace (begins a b is).0))
    by true is (suc zero) lt e = elim (begins a b is).1 [
      | inl x ↦ absurd (true≢false (sym e ∙ ap is_ascii_whitespace x))
      | inr x ↦ absurd (true≢false (sym e ∙ ap is_ascii_whitespace x))
    ]
    by true is (suc (suc i)) lt e = white_digits others i (omega arith) e

-- an address is no longer than `0x` and 16 digits
long_none : (word : List ℕ) → 18 < length word → address_of word ≡ None
long_none word lt = by (has_prefix word)
  where
    out : (n : ℕ) → 16 < n → is_in_range 1 16 n ≡ false
    out n lt = grind (arith, nat_tests)

    long_digits : (digits : List ℕ) → 16 < length digits → hexadecimal digits ≡ None
    long_digits digits lt = ap (λ (t : Bool). if t && list_all is_ascii_hexdigit digits then Some (digits_value 16 digits) else None) (out (length digits) lt)

    by : (b : Bool) → hexadecimal (if b then drop 2 word else word) ≡ None
    by true = long_digits (drop 2 word) (omega (arith, length-drop 2 word))
    by false = long_digits word (omega arith)

-- a text is white space to its end
abbrev is_white : List ℕ → Bool
is_white text = eqb (suffix_len is_ascii_whitespace text) (length text)

suffix_append : (text more : List ℕ) → suffix_len is_ascii_whitespace (text ++ more) ≡ cond (is_white more) (length more + suffix_len is_ascii_whitespace text) (suffix_len is_ascii_whitespace more)
suffix_append text more =
    ap (prefix_len is_ascii_whitespace) (reverse-append text more) ∙ prefix_len-append is_ascii_whitespace (reverse more) (reverse text)
    ∙ ap (λ n. cond (eqb (suffix_len is_ascii_whitespace more) n) (n + suffix_len is_ascii_whitespace text) (suffix_len is_ascii_whitespace more)) (length-reverse more)

-- white space at the end is trimmed
end_white : (text more : List ℕ) → is_white more ≡ true → trim_end (text ++ more) ≡ trim_end text
end_white text more e =
    let suffix = suffix_append text more ∙ ap (λ b. cond b (length more + suffix_len is_ascii_whitespace text) (suffix_len is_ascii_whitespace more)) e in
    let count : length (text ++ more) - suffix_len is_ascii_whitespace (text ++ more) ≡ length text - suffix_len is_ascii_whitespace text = omega (arith, suffix, length-append text more) in
    ap (λ n. take n (text ++ more)) count ∙ take-append-le (length text - suffix_len is_ascii_whitespace text) text more (omega arith)

-- and only that
end_other : (text more : List ℕ) → is_white more ≡ false → trim_end (text ++ more) ≡ text ++ trim_end more
end_other text more e =
    let suffix = suffix_append text more ∙ ap (λ b. cond b (length more + suffix_len is_ascii_whitespace text) (suffix_len is_ascii_whitespace more)) e in
    let within = suffix_len-le-length is_ascii_whitespace more in
    let count : length (text ++ more) - suffix_len is_ascii_whitespace (text ++ more) ≡ length text + (length more - suffix_len is_ascii_whitespace more) = omega (arith, suffix, length-append text more, within) in
    ap (λ n. take n (text ++ more)) count ∙ take-append-add text more (length more - suffix_len is_ascii_whitespace more)

start_append : (text more : List ℕ) → prefix_len is_ascii_whitespace (text ++ more) ≡ cond (eqb (prefix_len is_ascii_whitespace text) (length text)) (length text + prefix_len is_ascii_whitespace more) (prefix_len is_ascii_whitespace text)
start_append text more = prefix_len-append is_ascii_whitespace text more

-- white space at the start is trimmed
start_white : (text more : List ℕ) → prefix_len is_ascii_whitespace text ≡ length text → trim_start (text ++ more) ≡ trim_start more
start_white text more e =
    let count : prefix_len is_ascii_whitespace (text ++ more) ≡ length text + prefix_len is_ascii_whitespace more = start_append text more ∙ equal (prefix_len is_ascii_whitespace text) (length text) (prefix_len is_ascii_whitespace more) e in
    ap (λ n. drop n (text ++ more)) count ∙ drop-append-add text more (prefix_len is_ascii_whitespace more)
  where
    equal : (a b c : ℕ) → a ≡ b → cond (eqb a b) (b + c) a ≡ b + c
    equal a b c e = grind (arith, nat_tests)

-- and only that
start_other : (text more : List ℕ) → prefix_len is_ascii_whitespace text < length text → trim_start (text ++ more) ≡ trim_start text ++ more
start_other text more lt =
    let count : prefix_len is_ascii_whitespace (text ++ more) ≡ prefix_len is_ascii_whitespace text = start_append text more ∙ less (prefix_len is_ascii_whitespace text) (length text) (prefix_len is_ascii_whitespace more) lt in
    ap (λ n. drop n (text ++ more)) count ∙ drop-append-le (prefix_len is_ascii_whitespace text) text more (omega arith)
  where
    less : (a b c : ℕ) → a < b → cond (eqb a b) (b + c) a ≡ a
    less a b c lt = grind (arith, nat_tests)

-- a text that begins with another byte
start_none : (byte : ℕ) (more : List ℕ) → is_ascii_whitespace byte ≡ false → trim_start (byte ∷ more) ≡ byte ∷ more
start_none byte more e = ap (λ b. drop (cond b (1 + prefix_len is_ascii_whitespace more) 0) (byte ∷ more)) e

-- of a line of white space one byte is kept
pub kept_white : (line : List ℕ) → length (trim_start line) ≡ 0 → (n : ℕ) → n ≡ min (length line) 1 → IsKeptOf line (take n line)
kept_white line none n few = subst (λ m. IsKeptOf line (take m line)) (sym few) (kept line none)
  where
    all : (line : List ℕ) → length (trim_start line) ≡ 0 → prefix_len is_ascii_whitespace line ≡ length line
    all line none = omega (arith, length-drop (prefix_len is_ascii_whitespace line) line, prefix_len-le-length is_ascii_whitespace line)

    kept : (line : List ℕ) → length (trim_start line) ≡ 0 → IsKeptOf line (take (min (length line) 1) line)
    kept [] none = record { same = λ more. refl; part = λ part. part; none = λ empty. refl; some = λ empty. refl }
    kept (byte ∷ others) none =
        let one : min (length (byte ∷ others)) 1 ≡ 1 = omega arith in
        let white : is_ascii_whitespace byte ≡ true = prefix_len_passes is_ascii_whitespace (byte ∷ others) 0 0 (omega (arith, all (byte ∷ others) none)) in
        subst (λ m. IsKeptOf (byte ∷ others) (take m (byte ∷ others))) (sym one) (record {
          same = λ more. ap (λ (t : List ℕ). address_of (trim_end t)) (start_white (byte ∷ []) more (ap (λ b. cond b (1 + 0) 0) white) ∙ sym (start_white (byte ∷ others) more (all (byte ∷ others) none)));
          part = λ part. All-take (λ b. b ≢ 10) 1 (byte ∷ others) part;
          none = λ empty. absurd cc;
          some = λ empty. absurd cc;
        })

-- what a line writes, from its first byte that is no white space on
from_first : (line begun more : List ℕ) → begun ≡ trim_start line → 0 < length begun → line_address (line ++ more) ≡ address_of (trim_end (begun ++ more))
from_first line begun more is some =
    let lt : prefix_len is_ascii_whitespace line < length line = omega (arith, ap (length {A = ℕ}) is, length-drop (prefix_len is_ascii_whitespace line) line) in
    ap (λ (t : List ℕ). address_of (trim_end t)) (start_other line more lt ∙ ap (λ (t : List ℕ). t ++ more) (sym is))

-- a line that is too long is kept as one byte
pub kept_long : (line begun word : List ℕ) → begun ≡ trim_start line → 0 < length begun → IsTrimAsciiEnd begun word → 18 < length word → IsKeptOf line (63 ∷ [])
kept_long line begun word is some ends long = record {
  same = λ more. mark more ∙ sym (from_first line begun more is some ∙ longer more);
  part = λ part. All-cons (λ byte. byte ≢ 10) 63 [] (λ e. absurd cc) (All-nil (λ (byte : ℕ). byte ≢ 10));
  none = λ empty. absurd cc;
  some = λ empty. absurd (omega (arith, ap (length {A = ℕ}) is, ap (λ (t : List ℕ). length (trim_start t)) empty));
}
  where
    longer : (more : List ℕ) → address_of (trim_end (begun ++ more)) ≡ None
    longer more = by (is_white more) refl
      where
        by : (b : Bool) → is_white more ≡ b → address_of (trim_end (begun ++ more)) ≡ None
        by true e = ap address_of (end_white begun more e ∙ sym (trim_ascii_end_is begun word ends)) ∙ long_none word long
        by false e = ap address_of (end_other begun more e) ∙ long_none (begun ++ trim_end more) (omega (arith, ends.2, ends.3, length-append begun (trim_end more)))

    other : (more : List ℕ) → address_of (63 ∷ more) ≡ None
    other more = tested (63 ∷ more) (is_in_range 1 16 (length (63 ∷ more))) (list_all is_ascii_hexdigit (63 ∷ more)) refl

    mark : (more : List ℕ) → line_address ((63 ∷ []) ++ more) ≡ None
    mark more = by (is_white more) refl
      where
        by : (b : Bool) → is_white more ≡ b → address_of (trim_end ((63 ∷ []) ++ more)) ≡ None
        by true e = ap address_of (end_white (63 ∷ []) more e) ∙ other []
        by false e = ap address_of (end_other (63 ∷ []) more e) ∙ other (trim_end more)

module _ (begun word : List ℕ) (ends : IsTrimAsciiEnd begun word) where
  -- what is kept, and behind it white space alone
  kept_end : trim_end (take (length word + 1) begun) ≡ trim_end begun
  kept_end =
      let n = length word + 1 in
      let behind : suffix_len is_ascii_whitespace (drop n begun) ≡ length (drop n begun) - 0 =
      suffix_len_is is_ascii_whitespace (drop n begun) 0 0 (omega arith) (λ k le lt. ap is_ascii_whitespace (get_or-drop n begun k 0) ∙ ends.4 (n + k) (omega (arith, ends.2)) (omega (arith, length-drop n begun))) (λ lt. absurd (omega arith)) in
      sym (end_white (take n begun) (drop n begun) (white (suffix_len is_ascii_whitespace (drop n begun)) (length (drop n begun)) behind)) ∙ ap trim_end (take-append-drop n begun)
    where
      white : (a b : ℕ) → a ≡ b - 0 → eqb a b ≡ true
      white a b e = grind (arith, nat_tests)

  -- whatever follows, the same address is written
  kept_same : (more : List ℕ) → address_of (trim_end (take (length word + 1) begun ++ more)) ≡ address_of (trim_end (begun ++ more))
  kept_same more = by (is_white more) refl
    where
      n : ℕ
      n = length word

      inner : (rest : List ℕ) → address_of (take (n + 1) begun ++ rest) ≡ address_of (begun ++ rest)
      inner rest = elim (cases_lt n (length begun)) [
        | inr le ↦ ap (λ (t : List ℕ). address_of (t ++ rest)) (take_all (n + 1) begun (omega arith))
        | inl lt ↦
            let count : length (take (n + 1) begun) ≡ n + 1 = length-take-le (n + 1) begun (omega arith) in
            let white : is_ascii_whitespace (get_or begun n 0) ≡ true = ends.4 n (omega (arith, ends.2)) lt in
            white_none (take (n + 1) begun ++ rest) n (omega (arith, count, length-append (take (n + 1) begun) rest))
            (ap is_ascii_whitespace (get_or_append_left (take (n + 1) begun) rest 0 n (omega (arith, count)) ∙ get_or-take (n + 1) begun n 0 (omega arith)) ∙ white)
            ∙ sym (white_none (begun ++ rest) n (omega (arith, length-append begun rest)) (ap is_ascii_whitespace (get_or_append_left begun rest 0 n lt) ∙ white))
      ]

      by : (b : Bool) → is_white more ≡ b → address_of (trim_end (take (n + 1) begun ++ more)) ≡ address_of (trim_end (begun ++ more))
      by true e = ap address_of (end_white (take (n + 1) begun) more e ∙ kept_end ∙ sym (end_white begun more e))
      by false e = ap address_of (end_other (take (n + 1) begun) more e) ∙ inner (trim_end more) ∙ sym (ap address_of (end_other begun more e))

-- of any other line no white space before the address is kept, and at most one byte of it behind
pub kept_word : (line begun word : List ℕ) (n : ℕ) → begun ≡ trim_start line → 0 < length begun → IsTrimAsciiEnd begun word → n ≡ min (length begun) (length word + 1) → IsKeptOf line (take n begun)
kept_word line begun word n is some ends few = record {
  same = λ more. from_kept more ∙ kept_same begun word ends more ∙ sym (from_first line begun more is some);
  part = λ part. All-take (λ byte. byte ≢ 10) n begun (subst HasNoLineFeed (sym is) (All-drop (λ byte. byte ≢ 10) (prefix_len is_ascii_whitespace line) line part));
  none = λ empty. absurd (omega (arith, few, some, ap (length {A = ℕ}) empty, length-take-le n begun (omega (arith, few))));
  some = λ empty. absurd (omega (arith, some, ap (length {A = ℕ}) is, ap (λ (t : List ℕ). length (trim_start t)) empty));
}
  where
    same_take : take n begun ≡ take (length word + 1) begun
    same_take = elim (cases_lt (length begun) (length word + 1)) [
      | inl lt ↦ take_all n begun (omega (arith, few)) ∙ sym (take_all (length word + 1) begun (omega arith))
      | inr le ↦ let eq : n ≡ length word + 1 = omega (arith, few) in ap (λ m. take m begun) eq
    ]

    lt : prefix_len is_ascii_whitespace line < length line
    lt = omega (arith, ap (length {A = ℕ}) is, length-drop (prefix_len is_ascii_whitespace line) line)

    first : (begun : List ℕ) → 0 < length begun → is_ascii_whitespace (get_or begun 0 0) ≡ false → (m : ℕ) (more : List ℕ) → 0 < m → trim_start (take m begun ++ more) ≡ take m begun ++ more
    first [] some e m more pos = absurd (omega arith)
    first (byte ∷ others) some e zero more pos = absurd (omega arith)
    first (byte ∷ others) some e (suc m) more pos = start_none byte (take m others ++ more) e

    starts : is_ascii_whitespace (get_or begun 0 0) ≡ false
    starts = ap (λ (t : List ℕ). is_ascii_whitespace (get_or t 0 0)) is ∙ ap is_ascii_whitespace (get_or-drop (prefix_len is_ascii_whitespace line) line 0 0 ∙ at_end) ∙ prefix_len_stops is_ascii_whitespace line 0 lt
      where
        at_end : get_or line (prefix_len is_ascii_whitespace line + 0) 0 ≡ get_or line (prefix_len is_ascii_whitespace line) 0
        at_end = let e : prefix_len is_ascii_whitespace line + 0 ≡ prefix_len is_ascii_whitespace line = omega arith in ap (λ m. get_or line m 0) e

    from_kept : (more : List ℕ) → line_address (take n begun ++ more) ≡ address_of (trim_end (take (length word + 1) begun ++ more))
    from_kept more = ap (λ (t : List ℕ). address_of (trim_end t)) (first begun some starts n more (omega (arith, few, some))) ∙ ap (λ (t : List ℕ). address_of (trim_end (t ++ more))) same_take

-- what is copied of these bytes
pub is_some : (n : ℕ) → (n == 0) ≡ false → 0 < n
is_some n e = grind (arith, nat_tests)
