-- The bytes that sections add, one section after the other.
use Rattle.std.proofs.Common.{◌≡◌, ℕ, zero, suc, ◌+◌, ◌-◌, ◌<◌, ◌≤◌, Bool, false, Global, Option, String, not, ◌&&◌, ◌||◌, List, [], ◌∷◌, ◌++◌, length, map, drop, get_or, min, max, nat_cmp, nat_le, nat_lt, refl, sym, ap, subst, ◌∙◌, arith, append-nil, append_assoc, inl, inr}
use Rattle.std.specs.List.{list_any}
use Rattle.std.specs.List.Sorted.{IsNonDecreasingBy, IsSortedByKey}
use Rattle.std.specs.Prelude.{if◌then◌else◌}
use Rattle.std.proofs.lemmas.Bool.{cases_lt, lt-ltb, le-ltb, lt-leb, le-leb}
use Rattle.std.proofs.lemmas.Bool.Decides.{nat_tests}
use Rattle.std.proofs.lemmas.List.{drop_more, map-append}
use Rattle.std.proofs.lemmas.List.Sorted.{IsNonDecreasingBy-from_sort}
use Rattle.binfarce_sections.specs.declared.sections.Section as code
use Rattle.binfarce_sections.specs.declared.sums.Share as code_share
use Rattle.binfarce_sections.specs.Section.{Section}
use Rattle.binfarce_sections.specs.Views.{section_view, share_view}
use Rattle.binfarce_sections.specs.Sums.{Share, count, has, new_bytes, shares_after, shares_of}

-- the next number is in a range, or not
in_range : (n a b : ℕ) → (min b n - a) + (if nat_le a n && nat_lt n b then 1 else 0) ≡ min b (suc n) - a
in_range n a b = elim (cases_lt n a) [
  | inl below ↦ rw (lt-leb a n below) (omega (arith, below))
  | inr above ↦ elim (cases_lt n b) [
    | inl inside ↦ rw (le-leb a n above, lt-ltb n b inside) (omega (arith, above, inside))
    | inr past ↦ rw (le-leb a n above, le-ltb n b past) (omega (arith, past))
  ]
]

-- the numbers of a range
count_range : (test : ℕ → Bool) (n a b : ℕ) → ((i : ℕ) → i < n → test i ≡ (nat_le a i && nat_lt i b)) → count test n ≡ min b n - a
count_range test zero a b is = omega arith
count_range test (suc n) a b is = rw (is n (omega arith), count_range test n a b (λ i lt. is i (omega (arith, lt)))) (in_range n a b)

-- from an offset on, sections have the file's bytes up to an end
abbrev pub Reach : ℕ → List Section → (low end : ℕ) → Type 0
Reach len before low end = (offset : ℕ) → low ≤ offset → offset < len → list_any (has offset) before ≡ nat_lt offset end

-- no section begins before the one before it
abbrev pub Rise : ℕ → List code.Section → Type 0
Rise low [] = Unit {0}
Rise low (s ∷ others) = (low ≤ s.offset) × Rise s.offset others

rest_rises : (low : ℕ) (rows : List code.Section) → IsNonDecreasingBy (λ (s : code.Section). s.offset) rows → ((d : code.Section) → 0 < length rows → low ≤ (get_or rows 0 d).offset) → Rise low rows
rest_rises low [] up first = tt
rest_rises low (s ∷ others) up first =
    (first s (omega arith), rest_rises s.offset others (λ i j d le lt. up (suc i) (suc j) d (omega arith) (omega arith)) (λ d lt. up 0 1 d (omega arith) (omega arith)))

all_rise : (rows : List code.Section) → IsSortedByKey (λ (s : code.Section). s.offset) nat_cmp rows → Rise 0 rows
all_rise rows up = rest_rises 0 rows (IsNonDecreasingBy-from_sort (λ (s : code.Section). s.offset) rows up) (λ d lt. omega arith)

in_both : (o z end x : ℕ) → ((nat_le o x && nat_lt x (o + z)) && not (nat_lt x end)) ≡ (nat_le (max o end) x && nat_lt x (o + z))
in_both o z end x = grind (arith, nat_tests)

new_are : (len : ℕ) (before : List Section) (s : Section) (low end : ℕ) → Reach len before low end → low ≤ s.offset → new_bytes len before s ≡ min (s.offset + s.file_size) len - max s.offset end
new_are len before s low end reach le = count_range (λ offset. has offset s && not (list_any (has offset) before)) len (max s.offset end) (s.offset + s.file_size) at
  where
    at : (x : ℕ) → x < len → (has x s && not (list_any (has x) before)) ≡ (nat_le (max s.offset end) x && nat_lt x (s.offset + s.file_size))
    at x lt = elim (cases_lt x s.offset) [
      | inl below ↦ rw (lt-leb s.offset x below, lt-leb (max s.offset end) x (omega (arith, below))) refl
      | inr above ↦ ap (λ (b : Bool). has x s && not b) (reach x (omega (arith, le, above)) lt) ∙ in_both s.offset s.file_size end x
    ]

in_either : (o z end len x : ℕ) → o ≤ x → x < len → ((nat_le o x && nat_lt x (o + z)) || nat_lt x end) ≡ nat_lt x (max (min (o + z) len) end)
in_either o z end len x le lt = grind (arith, nat_tests)

reach_more : (len : ℕ) (before : List Section) (s : Section) (low end : ℕ) → Reach len before low end → low ≤ s.offset → Reach len (s ∷ before) s.offset (max (min (s.offset + s.file_size) len) end)
reach_more len before s low end reach le x above lt =
    ap (λ (b : Bool). has x s || b) (reach x (omega (arith, le, above)) lt) ∙ in_either s.offset s.file_size end len x above lt

-- the sections up to an index have their shares, up to an end
pub record Shared (len : ℕ) (rows : List code.Section) (shares : List code_share.Share) (i end : ℕ) : Type 0 where
  pub before : List Section
  pub low : ℕ
  pub reach : Reach len before low end
  pub rise : Rise low (drop i rows)
  pub are : map share_view shares ++ shares_after len before (map section_view (drop i rows)) ≡ shares_of len (map section_view rows)

pub begun : (len : ℕ) (rows : List code.Section) → IsSortedByKey (λ (s : code.Section). s.offset) nat_cmp rows → Shared len rows [] 0 0
begun len rows up = record { before = []; low = 0; reach = λ x le lt. none x; rise = all_rise rows up; are = refl }
  where
    none : (x : ℕ) → false ≡ nat_lt x 0
    none x = grind (arith, nat_tests)

-- the next section has its share
pub one_more : (len : ℕ) (rows : List code.Section) (shares new : List code_share.Share) (i end added next : ℕ) (d : code.Section) (name : Option (String Global)) → i < length rows
    → added ≡ min ((get_or rows i d).offset + (get_or rows i d).file_size) len - max (get_or rows i d).offset end
    → next ≡ max (min ((get_or rows i d).offset + (get_or rows i d).file_size) len) end
    → new ≡ shares ++ (record { section = get_or rows i d; bytes = added; full_name = name }) ∷ [] → Shared len rows shares i end → Shared len rows new (i + 1) next
one_more len rows shares new i end added next d name lt adds more grown w =
    let row = get_or rows i d in
    let s = section_view row in
    let split : drop i rows ≡ row ∷ drop (i + 1) rows = drop_more rows i d lt in
    let rise : Rise w.low (row ∷ drop (i + 1) rows) = subst (Rise w.low) split w.rise in
    let others = shares_after len (s ∷ w.before) (map section_view (drop (i + 1) rows)) in
    let is : added ≡ new_bytes len w.before s = adds ∙ sym (new_are len w.before s w.low end w.reach rise.0) in
    let one : code_share.Share = record { section = row; bytes = added; full_name = name } in
    record {
      before = s ∷ w.before;
      low = row.offset;
      reach = subst (Reach len (s ∷ w.before) row.offset) (sym more) (reach_more len w.before s w.low end w.reach rise.0);
      rise = rise.1;
      are = ap (λ (xs : List code_share.Share). map share_view xs ++ others) grown
          ∙ ap (λ (xs : List Share). xs ++ others) (map-append share_view shares (one ∷ []))
          ∙ append_assoc (map share_view shares) (share_view one ∷ []) others
          ∙ ap (λ (n : ℕ). map share_view shares ++ (record { section = s; bytes = n }) ∷ others) is
          ∙ ap (λ (xs : List code.Section). map share_view shares ++ shares_after len w.before (map section_view xs)) (sym split)
          ∙ w.are;
    }

pub ended : (len : ℕ) (rows : List code.Section) (shares : List code_share.Share) (i end : ℕ) → drop i rows ≡ [] → Shared len rows shares i end → map share_view shares ≡ shares_of len (map section_view rows)
ended len rows shares i end none w =
    sym (append-nil (map share_view shares)) ∙ ap (λ (xs : List code.Section). map share_view shares ++ shares_after len w.before (map section_view xs)) (sym none) ∙ w.are
