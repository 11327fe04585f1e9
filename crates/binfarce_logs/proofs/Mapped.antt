-- The lowest value, line by line.
use Rattle.std.proofs.Common.{◌≡◌, ℕ, suc, ◌+◌, ◌<◌, ◌≤◌, ◌⊎◌, Bool, true, false, cond, List, [], ◌∷◌, length, take, drop, get_or, Option, Some, None, inl, inr, refl, sym, ap, subst, ◌∙◌, add-one, arith, drop-cons, length-drop}
use Rattle.std.specs.Prelude.{◌&&◌, is_some, min, nat_eq, not, if◌then◌else◌}
use Rattle.std.specs.Char.{is_ascii_hexdigit}
use Rattle.std.specs.Int.{is_in_range}
use Rattle.std.specs.Option.{option_and_then}
use Rattle.std.specs.Str.Parse.{digits_value}
use Rattle.binfarce_rows.specs.Address.{hexadecimal}
use Rattle.std.specs.List.{after_first, before_first, list_all, onto_first, position_or_len, prefix_len, slice_split}
use Rattle.std.proofs.lemmas.Bool.{cases_lt}
use Rattle.std.proofs.lemmas.List.{take_all}
use Rattle.std.proofs.lemmas.List.Splits.{slice_split_first}
use Rattle.binfarce_logs.specs.Maps.{before_blank, begun_at, behind_blank, less_of, lowest_among, mapping_at, mapping_for, mapping_of, start_of, base_by, code_offset_of, first_start_of, other_than, same_as}
use Rattle.binfarce_logs.specs.declared.maps.Mapping.{Mapping}
use Rattle.binfarce_logs.specs.declared.maps.Wanted.{Wanted}
use Rattle.binfarce_logs.specs.declared.maps.Wanted.TheVariants.{AnyStart, Start, FirstStart, FirstAt, OtherFirst, CodeOffset, Base, OtherBase}
use Rattle.binfarce_logs.specs.machine.Wanted.{value_for}

pub less_of_none : (one : Option ℕ) → less_of one None ≡ one
less_of_none None = refl
less_of_none (Some a) = refl

min_assoc : (a b c : ℕ) → min (min a b) c ≡ min a (min b c)
min_assoc a b c = omega arith

pub less_of_assoc : (one two three : Option ℕ) → less_of (less_of one two) three ≡ less_of one (less_of two three)
less_of_assoc None two three = refl
less_of_assoc (Some a) None three = refl
less_of_assoc (Some a) (Some b) None = refl
less_of_assoc (Some a) (Some b) (Some c) = ap Some (min_assoc a b c)

-- no mapping is on an empty line
no_mapping : (end : List ℕ) → mapping_for end [] ≡ None
no_mapping end = refl

-- the value of a mapping in a line
abbrev pub value_in : Wanted → (line : List ℕ) → Option ℕ
value_in wanted line = value_for wanted line

none_on_empty : (wanted : Wanted) → value_in wanted [] ≡ None
none_on_empty AnyStart = refl
none_on_empty (Start end) = ap start_of (no_mapping end.now)
none_on_empty (FirstStart end) = ap first_start_of (no_mapping end.now)
none_on_empty (FirstAt end one) = ap (λ (m : Option Mapping). same_as one (first_start_of m)) (no_mapping end.now)
none_on_empty (OtherFirst end one) = ap (λ (m : Option Mapping). other_than one (first_start_of m)) (no_mapping end.now)
none_on_empty (CodeOffset end) = ap code_offset_of (no_mapping end.now)
none_on_empty (Base end loaded) = ap (base_by loaded) (no_mapping end.now)
none_on_empty (OtherBase end loaded base) = ap (λ (m : Option Mapping). other_than base (base_by loaded m)) (no_mapping end.now)

-- a line without a line feed is the only one
whole_step : (p : ℕ → Bool) (x : ℕ) (xs : List ℕ) (t : Bool) → cond (not t) (1 + position_or_len p xs) 0 ≡ suc (length xs) → (position_or_len p xs ≡ length xs → slice_split p xs ≡ xs ∷ [])
    → cond t ([] ∷ slice_split p xs) (onto_first x (slice_split p xs)) ≡ (x ∷ xs) ∷ []
whole_step p x xs true is rest = absurd (omega (arith, is))
whole_step p x xs false is rest = ap (onto_first x) (rest (omega (arith, is)))

whole : (p : ℕ → Bool) (xs : List ℕ) → position_or_len p xs ≡ length xs → slice_split p xs ≡ xs ∷ []
whole p [] is = refl
whole p (x ∷ xs) is = whole_step p x xs (p x) is (whole p xs)

no_more_than : (p : ℕ → Bool) (xs : List ℕ) → prefix_len p xs ≤ length xs
no_more_than p [] = omega arith
no_more_than p (x ∷ xs) = by (p x) (prefix_len p xs) (length xs) (no_more_than p xs)
  where
    by : (t : Bool) (n m : ℕ) → n ≤ m → cond t (1 + n) 0 ≤ suc m
    by true n m le = omega (arith, le)
    by false n m le = omega arith

nil : (x : List ℕ) → length x ≡ 0 → x ≡ []
nil [] none = refl
nil (b ∷ x) none = absurd (omega (arith, none))

-- the first line, and the others
pub first_line : (wanted : Wanted) (maps : List ℕ)
    → lowest_among (value_in wanted) (slice_split (nat_eq 10) maps) ≡ less_of (value_in wanted (before_first (nat_eq 10) maps)) (lowest_among (value_in wanted) (slice_split (nat_eq 10) (after_first (nat_eq 10) maps)))
first_line wanted maps = elim (cases_lt (position_or_len (nat_eq 10) maps) (length maps)) [
  | inl lt ↦ ap (lowest_among (value_in wanted)) (slice_split_first (nat_eq 10) maps 0 lt)
  | inr le ↦
      let p = nat_eq 10 in
      let value = value_in wanted in
      let all : position_or_len p maps ≡ length maps = omega (arith, le, no_more_than (λ x. not (p x)) maps) in
      let line : before_first p maps ≡ maps = take_all (position_or_len p maps) maps le in
      let rest : after_first p maps ≡ [] = nil (after_first p maps) (omega (arith, all, length-drop (position_or_len p maps + 1) maps)) in
      let none : lowest_among value (slice_split p (after_first p maps)) ≡ None = ap (λ (x : List ℕ). lowest_among value (slice_split p x)) rest ∙ ap (λ (o : Option ℕ). less_of o None) (none_on_empty wanted) in
      ap (lowest_among value) (whole p maps all) ∙ ap (λ (x : List ℕ). less_of (value x) None) (sym line) ∙ ap (less_of (value (before_first p maps))) (sym none)
]

-- nothing is left
pub none_left : (wanted : Wanted) (lowest : Option ℕ) → less_of lowest (lowest_among (value_in wanted) (slice_split (nat_eq 10) [])) ≡ lowest
none_left wanted lowest = ap (less_of lowest) (ap (λ (o : Option ℕ). less_of o None) (none_on_empty wanted)) ∙ less_of_none lowest

-- one line more
pub next_line : (wanted : Wanted) (all lowest value now : Option ℕ) (rest line after : List ℕ) (len : ℕ) → all ≡ less_of lowest (lowest_among (value_in wanted) (slice_split (nat_eq 10) rest)) → len ≡ position_or_len (nat_eq 10) rest → line ≡ take len rest
    → after ≡ drop (len + 1) rest → value ≡ value_in wanted line → now ≡ less_of lowest value → all ≡ less_of now (lowest_among (value_in wanted) (slice_split (nat_eq 10) after))
next_line wanted all lowest value now rest line after len is at first others found new =
    let p = nat_eq 10 in
    let line_is : line ≡ before_first p rest = first ∙ ap (λ n. take n rest) at in
    let after_is : after ≡ after_first p rest = others ∙ ap (λ n. drop (n + 1) rest) at in
    let now_is : now ≡ less_of lowest (value_in wanted (before_first p rest)) = new ∙ ap (less_of lowest) (found ∙ ap (value_in wanted) line_is) in
    let left = lowest_among (value_in wanted) (slice_split p (after_first p rest)) in
    is ∙ ap (less_of lowest) (first_line wanted rest) ∙ sym (less_of_assoc lowest (value_in wanted (before_first p rest)) left) ∙ ap (λ (o : Option ℕ). less_of o left) (sym now_is)
    ∙ ap (λ (x : List ℕ). less_of now (lowest_among (value_in wanted) (slice_split p x))) (sym after_is)

-- the text is empty, or begins with this byte
abbrev BeginsWith : (b : ℕ) (text : List ℕ) → Type 0
BeginsWith b text = (text ≡ []) ⊎ ((rest : List ℕ) × (text ≡ b ∷ rest))

add_first : (n : ℕ) → 1 + n ≡ suc n
add_first n = omega arith

-- so does what it has before another one
begins_before : (p : ℕ → Bool) (b : ℕ) (text : List ℕ) → BeginsWith b text → BeginsWith b (before_first p text)
begins_before p b text (inl none) = inl (ap (before_first p) none)
begins_before p b text (inr (rest, is)) = subst (λ (x : List ℕ). BeginsWith b (before_first p x)) (sym is) (by (p b))
  where
    by : (t : Bool) → BeginsWith b (take (cond (not t) (1 + position_or_len p rest) 0) (b ∷ rest))
    by true = inl refl
    by false = inr (take (position_or_len p rest) rest, ap (λ (n : ℕ). take n (b ∷ rest)) (add_first (position_or_len p rest)))

-- no number begins with a byte that is no digit
no_number : (b : ℕ) (text : List ℕ) → is_ascii_hexdigit b ≡ false → BeginsWith b text → hexadecimal text ≡ None
no_number b text other (inl none) = ap hexadecimal none
no_number b text other (inr (rest, is)) = ap hexadecimal is ∙ by (is_in_range 1 16 (length (b ∷ rest))) (is_ascii_hexdigit b) other
  where
    by : (t u : Bool) → u ≡ false → Path (Option ℕ) (if t && (u && list_all is_ascii_hexdigit rest) then Some (digits_value 16 (b ∷ rest)) else None) None
    by t true is = absurd cc
    by true false is = refl
    by false false is = refl

-- nor does a mapping
pub no_mapping_from : (line : List ℕ) → (0 < length line → is_ascii_hexdigit (get_or line 0 0) ≡ false) → None ≡ mapping_of line
no_mapping_from [] other = refl
no_mapping_from (b ∷ text) other =
    let line : List ℕ = b ∷ text in
    let start = no_number b (before_first (nat_eq 45) (before_blank line)) (other (omega arith)) (begins_before (nat_eq 45) b (before_blank line) (begins_before (nat_eq 32) b line (inr (text, refl)))) in
    sym (ap (λ (o : Option ℕ). option_and_then (λ (start : ℕ). option_and_then (λ (end : ℕ). option_and_then (mapping_at (before_blank (behind_blank line)) start end) (hexadecimal (before_blank (behind_blank (behind_blank line))))) (hexadecimal (after_first (nat_eq 45) (before_blank line)))) o) start)

-- no mapping begins at this byte
pub begun_step : (text : List ℕ) (at : ℕ) (may_begin : Bool) → at < length text → may_begin && is_some (mapping_of (drop at text)) ≡ false → begun_at may_begin (drop at text) ≡ begun_at (nat_eq (get_or text at 0) 32) (drop (at + 1) text)
begun_step text at may_begin lt none =
    let b = get_or text at 0 in
    let rest : List ℕ = drop (at + 1) text in
    let here : drop at text ≡ b ∷ rest = drop-cons text at 0 lt ∙ ap (λ (n : ℕ). b ∷ drop n text) (sym (add-one at)) in
    let P : Bool → List ℕ = λ t. if t then b ∷ rest else begun_at (nat_eq b 32) rest in
    ap (begun_at may_begin) here ∙ ap P (ap (λ (x : List ℕ). may_begin && is_some (mapping_of x)) (sym here) ∙ none)

-- one does
pub begun_here : (text : List ℕ) (at : ℕ) (may_begin : Bool) → at < length text → may_begin && is_some (mapping_of (drop at text)) ≡ true → begun_at may_begin (drop at text) ≡ drop at text
begun_here text at may_begin lt some =
    let b = get_or text at 0 in
    let rest : List ℕ = drop (at + 1) text in
    let here : drop at text ≡ b ∷ rest = drop-cons text at 0 lt ∙ ap (λ (n : ℕ). b ∷ drop n text) (sym (add-one at)) in
    let P : Bool → List ℕ = λ t. if t then b ∷ rest else begun_at (nat_eq b 32) rest in
    ap (begun_at may_begin) here ∙ ap P (ap (λ (x : List ℕ). may_begin && is_some (mapping_of x)) (sym here) ∙ some) ∙ sym here

-- none did
pub begun_none : (text : List ℕ) (at : ℕ) (may_begin : Bool) → length text ≤ at → begun_at may_begin (drop at text) ≡ []
begun_none text at may_begin le = ap (begun_at may_begin) (nil (drop at text) (omega (arith, le, length-drop at text)))
