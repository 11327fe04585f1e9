-- Where a file is loaded whose code a loader mapped at a bias.
use Rattle.std.proofs.Common.{◌≡◌, ℕ, zero, suc, ◌+◌, ◌-◌, ◌<◌, ◌≤◌, ◌^◌, ◌%◌, ◌⊎◌, Bool, true, false, List, [], ◌∷◌, length, get_or, Option, Some, None, Result, Ok, Err, inl, inr, refl, sym, ap, subst, ◌∙◌, arith, min}
use Rattle.std.specs.Prelude.{◌&&◌, All, Contains, is_some, nat_eq, nat_lt, not, if◌then◌else◌}
use Rattle.std.specs.List.{slice_split}
use Rattle.std.specs.Option.{option_and_then}
use Rattle.std.proofs.lemmas.Bool.{and_left, and_parts, cases_Bool, cases_lt, cond-false, cond-true, eq-eqb, false≢true, ltb-true, ne_eqb, not_from_true}
use Rattle.binfarce_logs.specs.Bias.{HasAtBias, IsMadeBy, IsMappedBy, has_code}
use Rattle.binfarce_logs.specs.Maps.{agrees, base_by, base_by_code, base_for, base_in, base_with, code_offset_of, if_agreed, is_debug, less_of, lowest, lowest_among, mapping_for, minus, other_than, placed, shares_bytes}
use Rattle.binfarce_logs.specs.declared.maps.Mapping.{Mapping}
use Rattle.binfarce_logs.specs.declared.maps.NoBase.{NoBase}
use Rattle.binfarce_logs.specs.declared.maps.NoBase.TheVariants.{Several}
use Rattle.binfarce_elf_memory.specs.declared.segments.CodeSegment.{CodeSegment}
use Rattle.binfarce_elf_memory.specs.declared.segments.LoadAddress.{LoadAddress}

-- the base, by a byte that is so far behind the beginning of the mapping and that of the segment
by_byte : (bias address start offset own place near far : ℕ) → offset < 2 ^ 64 → place < 2 ^ 64 → offset + near ≡ place + far
    → (start + near) % 2 ^ 64 ≡ (bias + (own + far)) % 2 ^ 64
    → (minus (minus start offset) (minus own place) + address) % 2 ^ 64 ≡ (bias + address) % 2 ^ 64
by_byte bias address start offset own place near far small less same is = omega (arith, small, less, same, is)

module _ (base : ℕ) where
  -- a mapping says nothing of the base, or that it is this one
  abbrev pub Says : Option ℕ → Type 0
  Says value = (value ≡ None) ⊎ (value ≡ Some base)

  found_first : (a b : Option ℕ) → a ≡ Some base → Says b → less_of a b ≡ Some base
  found_first a b is (inl none) = ap (λ x. less_of x b) is ∙ ap (less_of (Some base)) none
  found_first a b is (inr some) = ap (λ x. less_of x b) is ∙ ap (less_of (Some base)) some ∙ ap Some (omega arith)

  found_behind : (a b : Option ℕ) → Says a → b ≡ Some base → less_of a b ≡ Some base
  found_behind a b (inl none) is = ap (λ x. less_of x b) none ∙ is
  found_behind a b (inr some) is = found_first a b some (inr is)

  both : (a b : Option ℕ) → Says a → Says b → Says (less_of a b)
  both a b (inl none) others = subst (λ x. Says (less_of x b)) (sym none) others
  both a b (inr some) others = inr (found_first a b some others)

  module _ (value : List ℕ → Option ℕ) where
    behind : (line : List ℕ) (lines : List (List ℕ)) → All (λ l. Says (value l)) (line ∷ lines) → All (λ l. Says (value l)) lines
    behind line lines all = λ k d lt. all (suc k) d (omega (arith, lt))

    lowest_says : (lines : List (List ℕ)) → All (λ l. Says (value l)) lines → Says (lowest_among value lines)
    lowest_says [] all = inl refl
    lowest_says (line ∷ lines) all = both (value line) (lowest_among value lines) (all 0 line (omega arith)) (lowest_says lines (behind line lines all))

    pub lowest_is : (lines : List (List ℕ)) (line : List ℕ) (k : ℕ) → All (λ l. Says (value l)) lines → k < length lines → get_or lines k line ≡ line → value line ≡ Some base
        → lowest_among value lines ≡ Some base
    lowest_is [] line k all lt at is = absurd (omega (arith, lt))
    lowest_is (one ∷ lines) line zero all lt at is = found_first (value one) (lowest_among value lines) (ap value at ∙ is) (lowest_says lines (behind one lines all))
    lowest_is (one ∷ lines) line (suc k) all lt at is =
        found_behind (value one) (lowest_among value lines) (all 0 one (omega arith)) (lowest_is lines line k (behind one lines all) (omega (arith, lt)) at is)

    no_other : (a : Option ℕ) → Says a → other_than base a ≡ None
    no_other a (inl none) = ap (other_than base) none
    no_other a (inr some) = ap (other_than base) some ∙ cond-true (nat_eq base base) _ _ (eq-eqb base base refl)

    pub none_other : (lines : List (List ℕ)) → All (λ l. Says (value l)) lines → lowest_among (λ l. other_than base (value l)) lines ≡ None
    none_other [] all = refl
    none_other (line ∷ lines) all =
        ap (λ x. less_of x (lowest_among (λ l. other_than base (value l)) lines)) (no_other (value line) (all 0 line (omega arith))) ∙ none_other lines (behind line lines all)

module _ (bias : ℕ) (loaded : LoadAddress) (segment : CodeSegment) (small : segment.offset < 2 ^ 64) where
  abbrev pub base : ℕ
  base = (bias + loaded.address) % 2 ^ 64

  by_code : (m : Mapping) → m.offset < 2 ^ 64 → HasAtBias bias segment m → shares_bytes segment m ≡ true → base_by_code loaded.address segment m ≡ base
  by_code m less at shares =
      let both = and_parts (nat_lt (m.offset - segment.offset) segment.size) (nat_lt (segment.offset - m.offset) m.size) shares in
      let near = ltb-true (m.offset - segment.offset) segment.size both.0 in
      let far = ltb-true (segment.offset - m.offset) m.size both.1 in
      elim (cases_lt m.offset segment.offset) [
        | inl lt ↦ by_byte bias loaded.address m.start m.offset segment.address segment.offset (segment.offset - m.offset) (segment.offset - segment.offset) less small (omega (arith, lt))
            (at segment.offset (omega (arith, lt)) (omega (arith, lt, far)) (omega arith) (omega (arith, lt, near)))
        | inr le ↦ by_byte bias loaded.address m.start m.offset segment.address segment.offset (m.offset - m.offset) (m.offset - segment.offset) less small (omega (arith, le))
            (at m.offset (omega arith) (omega (arith, le, far)) le (omega (arith, le, near)))
      ]

  -- what a mapping says, if its offset is known
  known : (m : Mapping) → m.has_offset ≡ true → base_in loaded (Some segment) m ≡ (if m.is_code && shares_bytes segment m then Some (base_by_code loaded.address segment m) else None)
  known m has = cond-false (not m.has_offset) _ _ (not_from_true m.has_offset has)

  is_base : (m : Mapping) → IsMadeBy bias segment (Some m) → has_code segment (Some m) ≡ true → base_in loaded (Some segment) m ≡ Some base
  is_base m (has, less, at) code =
      let parts = and_parts m.is_code (shares_bytes segment m) code in
      known m has ∙ cond-true (m.is_code && shares_bytes segment m) _ _ code ∙ ap Some (by_code m less (at parts.0) parts.1)

  says : (mapping : Option Mapping) → IsMadeBy bias segment mapping → Says base (option_and_then (base_in loaded (Some segment)) mapping)
  says None made = inl refl
  says (Some m) made = elim (cases_Bool (has_code segment (Some m))) [
    | inl code ↦ inr (is_base m made code)
    | inr none ↦ inl (known m made.0 ∙ cond-false (m.is_code && shares_bytes segment m) _ _ none)
  ]

  found : (mapping : Option Mapping) → IsMadeBy bias segment mapping → has_code segment mapping ≡ true → option_and_then (base_in loaded (Some segment)) mapping ≡ Some base
  found None made code = absurd (false≢true code)
  found (Some m) made code = is_base m made code

  -- all lines say that it is the base
  module _ (mapping : List ℕ → Option Mapping) (lines : List (List ℕ)) (all : All (λ line. IsMadeBy bias segment (mapping line)) lines) where
    abbrev pub value : List ℕ → Option ℕ
    value line = option_and_then (base_in loaded (Some segment)) (mapping line)

    all_say : All (λ line. Says base (value line)) lines
    all_say = λ k d lt. says (mapping (get_or lines k d)) (all k d lt)

    pub all_found : (line : List ℕ) → Contains lines line → has_code segment (mapping line) ≡ true → lowest_among value lines ≡ Some base
    all_found line (k, lt, at) code =
        lowest_is base value lines line k all_say lt at (found (mapping line) (subst (λ l. IsMadeBy bias segment (mapping l)) at (all k line lt)) code)

    pub none_left : lowest_among (λ line. other_than base (value line)) lines ≡ None
    none_left = none_other base value lines all_say

-- a segment with bytes stays as it is
unplaced : (segment : CodeSegment) (offset : Option ℕ) → 0 < segment.size → placed offset segment ≡ segment
unplaced segment None some = refl
unplaced segment (Some offset) some = cond-false (is_debug segment) _ _ (ne_eqb segment.size 0 (λ none. absurd (omega (arith, some, none))))

pub by_bias : (bias : ℕ) (maps end : List ℕ) (address : ℕ) (code : Option CodeSegment) → IsMappedBy bias (mapping_for end) (slice_split (nat_eq 10) maps) code
    → base_for maps end (record { address = address; code = code }) ≡ Ok ((bias + address) % 2 ^ 64)
by_bias bias maps end address None made = absurd made
by_bias bias maps end address (Some segment) (some, small, all, (line, there, code)) =
    let loaded : LoadAddress = record { address = address; code = Some segment } in
    let lines = slice_split (nat_eq 10) maps in
    let offset = lowest (λ line. code_offset_of (mapping_for end line)) maps in
    let at : base_with maps end loaded (lowest (λ line. base_by loaded (mapping_for end line)) maps) ≡ Ok (base bias loaded segment small) =
    ap (base_with maps end loaded) (all_found bias loaded segment small (mapping_for end) lines all line there code)
    ∙ ap (λ (x : Option ℕ). if is_some x then Err Several else Ok (base bias loaded segment small)) (none_left bias loaded segment small (mapping_for end) lines all) in
    ap (λ (s : CodeSegment). if_agreed maps end (Some segment) (base_with maps end (record { address = address; code = Some s }) (lowest (λ line. base_by (record { address = address; code = Some s }) (mapping_for end line)) maps))) (unplaced segment offset some)
    ∙ ap (if_agreed maps end (Some segment)) at
    ∙ cond-false (is_debug segment && _) _ _ (and_left (is_debug segment) _ (ne_eqb segment.size 0 (λ none. absurd (omega (arith, some, none)))))
