-- Each text has exactly one filtered text.
use Rattle.std.proofs.Common.{◌≡◌, ◌⊎◌, ℕ, zero, suc, ◌+◌, ◌<◌, ◌≤◌, Bool, true, false, not, ◌&&◌, ◌==◌, List, [], ◌∷◌, ◌++◌, length, take, drop, get_or, if◌then◌else◌, inl, inr, refl, sym, ◌∙◌, ap, subst, arith, append_assoc, append-nil, length-drop, eqb-true}
use Rattle.std.proofs.lemmas.Bool.{and_from, and_parts, cases_Bool, false≢true}
use Rattle.std.proofs.lemmas.List.{append_cancel_right, drop-drop, take-append-drop}
use Rattle.std.specs.List.{list_all, prefix_len}
use Rattle.binfarce_legacy.specs.Legacy.{Reads, ends_in_hash}
use Rattle.binfarce_legacy.proofs.ElementLemmas.{reads_one_way}
use Rattle.binfarce_names.specs.Name.{Name, text_of}
use Rattle.binfarce_names.proofs.NameLemmas.{answers_same}
use Rattle.binfarce_filtering.specs.Filter.{IsFiltered, IsNameLength, IsRead, IsReadable, IsShown, IsShownIf, IsSymbolLength, added, begins_name, begins_v0, dropped, ends_name, ends_run, is_dot, is_hidden, is_run, is_run_byte, is_too_long}
use Rattle.binfarce_filtering.specs.Filter.IsFiltered.{nothing, other_then, run_then}
use Rattle.binfarce_filtering.specs.Filter.IsRead.{byte_then, name_then, no_more, rest_stays}
use Rattle.binfarce_filtering.specs.Laws.{HasAnOutput, HasOneOutput, HasPrefixWritten}
use Rattle.binfarce_filtering.proofs.Decisions.{answers, reads_or_not}
use Rattle.binfarce_filtering.proofs.Names.{legacy_other, no_symbol, none_read}
use Rattle.binfarce_filtering.proofs.Parts.{none_is_short}
use Rattle.binfarce_filtering.proofs.Runs.{filtered_same, one_byte, run_alone, run_and_byte, run_bytes}
use Rattle.binfarce_filtering.proofs.Scans.{run_grows}

-- A text has an output

-- a run begins with a name
abbrev BeginsWithName : List ℕ → Type 0
BeginsWithName run = (n : ℕ) × (0 < n) × IsNameLength run n

v0_is_some : (run : List ℕ) → begins_v0 run ≡ true → 0 < prefix_len (λ b. not (is_dot b)) run
v0_is_some [] begins = absurd cc
v0_is_some (b ∷ run) begins =
    let P : ℕ → Type 0 = λ x. 0 < prefix_len (λ b. not (is_dot b)) (x ∷ run) in
    let first : 95 ≡ b = eqb-true 95 b (and_parts _ _ (and_parts _ _ begins).0).0 in
    subst P first (omega arith)

symbol_or_not : (run : List ℕ) → ((n : ℕ) × (0 < n) × IsSymbolLength (begins_v0 run) run n) ⊎ ((n : ℕ) → ¬ (IsSymbolLength (begins_v0 run) run n))
symbol_or_not run = elim (cases_Bool (begins_v0 run)) [
  | inl v0 ↦
      let len : ℕ = prefix_len (λ b. not (is_dot b)) run in
      let P : Bool → Type 0 = λ t. IsSymbolLength t run len in
      inl (len, v0_is_some run v0, subst P (sym v0) refl)
  | inr legacy ↦ elim (reads_or_not (drop 3 run)) [
    | inl reads ↦
        let end : ℕ = reads.1 in
        let rest : List ℕ = drop (3 + end) run in
        elim (cases_Bool (ends_in_hash reads.0 && ends_name rest)) [
          | inl ends ↦
              let parts = and_parts (ends_in_hash reads.0) (ends_name rest) ends in
              let P : Bool → Type 0 = λ t. IsSymbolLength t run (3 + end) in
              inl (3 + end, omega arith, subst P (sym legacy) (reads.0, subst (λ x. Reads (drop 3 run) reads.0 x) (drop-drop end 3 run) reads.2, parts.0, parts.1))
          | inr other ↦ inr (no_symbol run legacy (legacy_other run (drop 3 run) rest end (ends_in_hash reads.0) refl (reads.0, reads.2, refl) refl other))
        ]
    | inr none ↦ inr (no_symbol run legacy (λ n is. none is.0 (drop n run) is.1))
  ]
]

name_or_not : (run : List ℕ) → BeginsWithName run ⊎ ((n : ℕ) → ¬ (IsNameLength run n))
name_or_not run = elim (symbol_or_not (drop (added run) run)) [
  | inl is ↦ inl (added run + is.0, omega (arith, is.1), (is.0, refl, is.2))
  | inr none ↦ inr (λ n is. none is.0 is.2)
]

readable : (full : Bool) (name : List ℕ) → (shown : List ℕ) × IsReadable full name shown
readable full name = let is = answers name in (_, (is.0, is.1, refl))

read_within : (full : Bool) (most : ℕ) (first : Bool) (run : List ℕ) → length run ≤ most → (shown : List ℕ) × IsRead full first run shown
read_within full most first [] short = ([], no_more first)
read_within full zero first (b ∷ run) short = absurd (omega (arith, short))
read_within full (suc most) first (b ∷ run) short =
    let all : List ℕ = b ∷ run in
    elim (cases_Bool (begins_name first all)) [
      | inl begins ↦ elim (name_or_not all) [
        | inl is ↦
            let n : ℕ = is.0 in
            let name = readable full (take n all) in
            let more : ℕ = dropped (take n all) name.0 (drop n all) in
            let rest = read_within full most false (drop more (drop n all)) (omega (arith, short, is.1, length-drop n all, length-drop more (drop n all))) in
            (name.0 ++ rest.0, name_then first all n name.0 rest.0 begins is.2 name.1 rest.1)
        | inr none ↦ (all, rest_stays first all begins none)
      ]
      | inr other ↦ let rest = read_within full most false run (omega (arith, short)) in (b ∷ rest.0, byte_then first b run rest.0 other rest.1)
    ]

some_shown : (full : Bool) (run : List ℕ) → (shown : List ℕ) × IsShown full run shown
some_shown full run = by (is_too_long run)
  where
    by : (t : Bool) → (shown : List ℕ) × IsShownIf t full run shown
    by true = (run, refl)
    by false = read_within full (length run) true run (omega arith)

-- an output for a run that has begun, or for none, and the text after it
filtered_from : (full : Bool) (run text : List ℕ) → is_run run ≡ true → HasAnOutput (IsFiltered full) (run ++ text)
filtered_from full run [] is =
    let last = some_shown full run in (last.0, filtered_same full _ _ _ _ (sym (append-nil run)) refl (run_alone full run last.0 is last.1))
filtered_from full [] (b ∷ text) is = elim (cases_Bool (b == 95)) [
  | inl begins ↦ filtered_from full (b ∷ []) text (and_from (b == 95) true begins refl)
  | inr other ↦ let rest = filtered_from full [] text refl in (b ∷ rest.0, other_then b text rest.0 other rest.1)
]
filtered_from full (a ∷ run) (b ∷ text) is = elim (cases_Bool (is_run_byte b)) [
  | inl more ↦
      let longer = filtered_from full (a ∷ (run ++ b ∷ [])) text (run_grows (a ∷ run) (b ∷ []) is (omega arith) (one_byte b more)) in
      (longer.0, filtered_same full _ _ _ _ (append_assoc (a ∷ run) (b ∷ []) text) refl longer.1)
  | inr ends ↦
      let this = some_shown full (a ∷ run) in
      let rest = filtered_from full [] text refl in
      (this.0 ++ b ∷ rest.0, run_and_byte full (a ∷ run) this.0 b text rest.0 is this.1 ends rest.1)
]

pub has_output : (full : Bool) (text : List ℕ) → HasAnOutput (IsFiltered full) text
has_output full text = filtered_from full [] text refl

-- It has no other

-- names that a run begins with have the same rest after them
same_rest : (run : List ℕ) (n m : ℕ) → IsNameLength run n → IsNameLength run m → drop n run ≡ drop m run
same_rest run n m is also =
    let symbol : List ℕ = drop (added run) run in
    let same : drop is.0 symbol ≡ drop also.0 symbol = by (begins_v0 symbol) symbol is.0 also.0 is.2 also.2 in
    ap (λ k. drop k run) is.1 ∙ sym (drop-drop is.0 (added run) run) ∙ same ∙ drop-drop also.0 (added run) run ∙ ap (λ k. drop k run) (sym also.1)
  where
    by : (v0 : Bool) (symbol : List ℕ) (n m : ℕ) → IsSymbolLength v0 symbol n → IsSymbolLength v0 symbol m → drop n symbol ≡ drop m symbol
    by true symbol n m is also = ap (λ k. drop k symbol) (is ∙ sym also)
    by false symbol n m is also = (reads_one_way (drop 3 symbol) is.0 also.0 (drop n symbol) (drop m symbol) is.1 also.1).1

same_name : (run : List ℕ) (n m : ℕ) → drop n run ≡ drop m run → take n run ≡ take m run
same_name run n m same =
    append_cancel_right (take n run) (take m run) (drop m run)
    (ap (λ (x : List ℕ). take n run ++ x) (sym same) ∙ take-append-drop n run ∙ sym (take-append-drop m run))

one_readable : (full : Bool) (name other shown also : List ℕ) → IsReadable full name shown → IsReadable full other also → name ≡ other → shown ≡ also
one_readable full name other shown also is this same =
    let here : IsReadable full name also = subst (λ x. IsReadable full x also) (sym same) this in
    let text : Name → List ℕ = λ answer. if is_hidden (text_of full answer) then name else text_of full answer in
    is.2 ∙ ap text (answers_same name is.0 here.0 is.1 here.1) ∙ sym here.2

-- no name begins one of two equal runs and not the other
apart : (first : Bool) (run other : List ℕ) → begins_name first run ≡ false → begins_name first other ≡ true → run ≡ other → ⊥
apart first run other none begins same = false≢true (sym none ∙ ap (begins_name first) same ∙ begins)

same_first : (b c : ℕ) (text other : List ℕ) → b ∷ text ≡ c ∷ other → b ≡ c
same_first b c text other same = ap (λ (x : List ℕ). get_or x 0 0) same

same_cons : (b c : ℕ) (text other : List ℕ) → b ≡ c → text ≡ other → b ∷ text ≡ c ∷ other
same_cons b c text other first rest = ap (λ (x : ℕ). x ∷ text) first ∙ ap (λ (x : List ℕ). c ∷ x) rest

one_read : (full first : Bool) (run other shown also : List ℕ) → IsRead full first run shown → IsRead full first other also → run ≡ other → shown ≡ also
one_read full first _ other _ also (no_more _) this same = sym (none_read full first other also this (sym same))
one_read full first _ _ _ _ (byte_then _ b run shown none rest) (no_more _) same = absurd cc
one_read full first _ _ _ _ (byte_then _ b run shown none rest) (byte_then _ c other also too more) same =
    same_cons b c shown also (same_first b c run other same) (one_read full false run other shown also rest more (ap (drop 1) same))
one_read full first _ _ _ _ (byte_then _ b run shown none rest) (name_then _ other m words also begins size answer more) same = absurd (apart first (b ∷ run) other none begins same)
one_read full first _ _ _ _ (byte_then _ b run shown none rest) (rest_stays _ other begins stays) same = absurd (apart first (b ∷ run) other none begins same)
one_read full first _ _ _ _ (name_then _ run n text shown begins len name rest) (no_more _) same = none_read full first run (text ++ shown) (name_then first run n text shown begins len name rest) same
one_read full first _ _ _ _ (name_then _ run n text shown begins len name rest) (byte_then _ c other also none more) same = absurd (apart first (c ∷ other) run none begins (sym same))
one_read full first _ _ _ _ (name_then _ run n text shown begins len name rest) (name_then _ other m words also too size answer more) same =
    let behind : drop n run ≡ drop m other = same_rest run n m len (subst (λ x. IsNameLength x m) (sym same) size) ∙ ap (drop m) same in
    let before : take n run ≡ take m other = same_name run n m (behind ∙ ap (drop m) (sym same)) ∙ ap (take m) same in
    let texts : text ≡ words = one_readable full (take n run) (take m other) text words name answer before in
    let left : List ℕ → List ℕ → List ℕ → List ℕ = λ x y z. drop (dropped x y z) z in
    let lefts : left (take n run) text (drop n run) ≡ left (take m other) words (drop m other) =
    ap (λ x. left x text (drop n run)) before ∙ ap (λ y. left (take m other) y (drop n run)) texts ∙ ap (λ z. left (take m other) words z) behind in
    ap (λ (x : List ℕ). x ++ shown) texts
    ∙ ap (λ (x : List ℕ). words ++ x) (one_read full false (left (take n run) text (drop n run)) (left (take m other) words (drop m other)) shown also rest more lefts)
one_read full first _ _ _ _ (name_then _ run n text shown begins len name rest) (rest_stays _ other too stays) same = absurd (stays n (subst (λ x. IsNameLength x n) same len))
one_read full first _ _ _ _ (rest_stays _ run begins stays) (no_more _) same = same
one_read full first _ _ _ _ (rest_stays _ run begins stays) (byte_then _ c other also none more) same = absurd (apart first (c ∷ other) run none begins (sym same))
one_read full first _ _ _ _ (rest_stays _ run begins stays) (name_then _ other m words also too size answer more) same = absurd (stays m (subst (λ x. IsNameLength x m) (sym same) size))
one_read full first _ _ _ _ (rest_stays _ run begins stays) (rest_stays _ other too also) same = same

one_shown : (full : Bool) (run other shown also : List ℕ) → IsShown full run shown → IsShown full other also → run ≡ other → shown ≡ also
one_shown full run other shown also is this same = by (is_too_long run) is (subst (λ x. IsShown full x also) (sym same) this)
  where
    by : (t : Bool) → IsShownIf t full run shown → IsShownIf t full run also → shown ≡ also
    by true is this = is ∙ sym this
    by false is this = one_read full true run run shown also is this refl

-- a filtered text in which no run is empty
data Split (full : Bool) : (text filtered : List ℕ) → Type 0 where
  at_end : Split full [] []
  byte_first : (b : ℕ) (text filtered : List ℕ) → (b == 95) ≡ false → Split full text filtered → Split full (b ∷ text) (b ∷ filtered)
  run_first : (b : ℕ) (run shown text filtered : List ℕ) → is_run (b ∷ run) ≡ true → IsShown full (b ∷ run) shown → ends_run text ≡ true → Split full text filtered
      → Split full (b ∷ (run ++ text)) (shown ++ filtered)

split : (full : Bool) (text filtered : List ℕ) → IsFiltered full text filtered → Split full text filtered
split full _ _ nothing = at_end
split full _ _ (other_then b text filtered other rest) = byte_first b text filtered other (split full text filtered rest)
split full _ _ (run_then [] shown text filtered is shows ends rest) =
    let none : shown ≡ [] = none_read full true [] shown (subst (λ t. IsShownIf t full [] shown) none_is_short shows) refl in
    subst (λ (x : List ℕ). Split full text (x ++ filtered)) (sym none) (split full text filtered rest)
split full _ _ (run_then (b ∷ run) shown text filtered is shows ends rest) = run_first b run shown text filtered is shows ends (split full text filtered rest)

-- a run doesn't end before a byte that runs have
goes_on : (b : ℕ) (run more text : List ℕ) → list_all is_run_byte (b ∷ run) ≡ true → text ≡ b ∷ (run ++ more) → ends_run text ≡ true → ⊥
goes_on b run more text is same ends = false≢true (sym (ap not (and_parts (is_run_byte b) (list_all is_run_byte run) is).0) ∙ sym (ap ends_run same) ∙ ends)

-- a text is run bytes, and then a text before which a run ends, in one way
same_run : (run text other more : List ℕ) → list_all is_run_byte run ≡ true → ends_run text ≡ true → list_all is_run_byte other ≡ true → ends_run more ≡ true → run ++ text ≡ other ++ more
    → (run ≡ other) × (text ≡ more)
same_run [] text [] more is ends too stops same = (refl, same)
same_run [] text (c ∷ other) more is ends too stops same = absurd (goes_on c other more text too same ends)
same_run (b ∷ run) text [] more is ends too stops same = absurd (goes_on b run text more is (sym same) stops)
same_run (b ∷ run) text (c ∷ other) more is ends too stops same =
    let rests = same_run run text other more (and_parts (is_run_byte b) (list_all is_run_byte run) is).1 ends (and_parts (is_run_byte c) (list_all is_run_byte other) too).1 stops (ap (drop 1) same) in
    (same_cons b c run other (same_first b c (run ++ text) (other ++ more) same) rests.0, rests.1)

-- no run begins with one of two equal bytes and not with the other
other_first : (b c : ℕ) (run : List ℕ) → (b == 95) ≡ false → is_run (c ∷ run) ≡ true → b ≡ c → ⊥
other_first b c run other is same = false≢true (sym other ∙ ap (λ x. x == 95) same ∙ (and_parts (c == 95) (list_all is_run_byte run) is).0)

one_split : (full : Bool) (text same filtered also : List ℕ) → Split full text filtered → Split full same also → text ≡ same → filtered ≡ also
one_split full _ _ _ _ at_end at_end same = refl
one_split full _ _ _ _ at_end (byte_first c more also other rest) same = absurd cc
one_split full _ _ _ _ at_end (run_first c line looks more also is shows ends rest) same = absurd cc
one_split full _ _ _ _ (byte_first b text filtered other rest) at_end same = absurd cc
one_split full _ _ _ _ (byte_first b text filtered other rest) (byte_first c more also too others) same =
    same_cons b c filtered also (same_first b c text more same) (one_split full text more filtered also rest others (ap (drop 1) same))
one_split full _ _ _ _ (byte_first b text filtered other rest) (run_first c line looks more also is shows ends others) same = absurd (other_first b c line other is (same_first b c text (line ++ more) same))
one_split full _ _ _ _ (run_first b run shown text filtered is shows ends rest) at_end same = absurd cc
one_split full _ _ _ _ (run_first b run shown text filtered is shows ends rest) (byte_first c more also other others) same = absurd (other_first c b run other is (same_first c b more (run ++ text) (sym same)))
one_split full _ _ _ _ (run_first b run shown text filtered is shows ends rest) (run_first c line looks more also too reads stops others) same =
    let parts = same_run (b ∷ run) text (c ∷ line) more (run_bytes (b ∷ run) is) ends (run_bytes (c ∷ line) too) stops same in
    ap (λ (x : List ℕ). x ++ filtered) (one_shown full (b ∷ run) (c ∷ line) shown looks shows reads parts.0)
    ∙ ap (λ (x : List ℕ). looks ++ x) (one_split full text more filtered also rest others parts.1)

pub one_output : (full : Bool) (text : List ℕ) → HasOneOutput (IsFiltered full) text
one_output full text first second is also = one_split full text text first second (split full text first is) (split full text second also) refl

-- What was written of it

-- where each text has an output, what was written of a text is a prefix of its one output
pub prefix_written : (IsOutput : (text output : List ℕ) → Type 0) → ((text : List ℕ) → HasAnOutput IsOutput text) → (text : List ℕ) → HasOneOutput IsOutput text → HasPrefixWritten IsOutput text
prefix_written IsOutput some text one written output begins is =
    let rest = some begins.1 in
    let others : List ℕ = begins.2 in
    (others ++ rest.0, one output ((written ++ others) ++ rest.0) is (begins.4 rest.0 rest.1) ∙ append_assoc written others rest.0)
