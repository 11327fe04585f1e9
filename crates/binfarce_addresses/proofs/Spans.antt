-- The spans of ranges, and the search among them.
use Rattle.std.proofs.Common.{◌≡◌, ℕ, ◌+◌, ◌-◌, ◌^◌, ◌<◌, ◌≤◌, inl, inr, true, false, leb, List, length, get_or, Option, Some, None, MatchOption, sym, ap, subst, ◌∙◌, arith}
use Rattle.std.specs.List.Sorted.{IsNonDecreasingBy, IsPartitionPoint}
use Rattle.std.proofs.lemmas.Bool.Decides.{nat_tests}
use Rattle.std.proofs.lemmas.Bool.{cases_lt}
use Rattle.std.proofs.lemmas.List.{get_or_default}
use Rattle.std.proofs.lemmas.List.Elements.{All-from_get_or}
use Rattle.binfarce_addresses.specs.Range.{AreSpans, AreSpansOf, Holds, IsFoundAt, IsSpanAt, NoneHolds, no_span, span_at}
use Rattle.binfarce_addresses.specs.declared.ranges.AddressRange.{AddressRange}
use Rattle.binfarce_addresses.specs.declared.ranges.Row.{Row}
use Rattle.binfarce_addresses.specs.declared.ranges.Span.{Span}
use Rattle.binfarce_addresses.specs.machine.Sweep.{AreRowsOf, AreSwept, HoldsAt, IsLastAt, no_range, range_at, row_at}

-- where a search among the spans ends, the span of the address is the one before
pub span_there : (spans : List Span) (address next : ℕ) → AreSpans spans → next ≤ length spans → IsPartitionPoint (λ (s : Span). leb s.start address ≡ true) (λ (s : Span). leb s.start address ≡ false) spans next
    → (1 ≤ next) × IsSpanAt spans address (next - 1)
span_there spans address next are bound among = elim (cases_lt 0 next) [
  | inr none ↦ absurd (omega (arith, behind 0 none are.some, are.first))
  | inl some ↦ (
    omega arith,
    (
      omega arith,
      begins (next - 1) (omega arith),
      λ lt. let here : next - 1 + 1 ≡ next = omega arith in omega (arith, behind next (omega arith) (omega (arith, lt)), ap (λ k. (span_at spans k).start) here),
    ),
  )
]
  where
    begins : (k : ℕ) → k < next → (span_at spans k).start ≤ address
    begins k lt = is (span_at spans k).start address (among.0 k no_span (omega arith) lt)
      where
        is : (a b : ℕ) → leb a b ≡ true → a ≤ b
        is a b e = grind (arith, nat_tests)

    behind : (k : ℕ) → next ≤ k → k < length spans → address < (span_at spans k).start
    behind k le lt = is (span_at spans k).start address (among.1 k no_span le lt)
      where
        is : (a b : ℕ) → leb a b ≡ false → b < a
        is a b e = grind (arith, nat_tests)

pub rises : (spans : List Span) → AreSpans spans → IsNonDecreasingBy (λ (s : Span). s.start) spans
rises spans are i j d le lt =
    omega (arith, are.rise i j le lt, ap (λ (s : Span). s.start) (get_or_default spans i no_span d (omega arith)), ap (λ (s : Span). s.start) (get_or_default spans j no_span d lt))

module _ (ranges : List AddressRange) (rows : List Row) (are : AreRowsOf ranges rows) (address : ℕ) (fits : address < 2 ^ 64) where
  -- a row holds an address as its range does
  held : (k : ℕ) → k < length rows → HoldsAt (row_at rows k) address → Holds (range_at ranges (row_at rows k).place.0) address
  held k lt holds = let row = are.row_is k lt in (omega (arith, row.1, holds.0), omega (arith, row.1, row.2, holds.1))

  held_so : (k : ℕ) → k < length rows → Holds (range_at ranges (row_at rows k).place.0) address → HoldsAt (row_at rows k) address
  held_so k lt holds = let row = are.row_is k lt in (omega (arith, row.1, holds.0), omega (arith, row.1, row.2, holds.0, holds.1))

  none : ((j : ℕ) → j < length rows → ¬ (HoldsAt (row_at rows j) address)) → NoneHolds ranges address
  none never = All-from_get_or (λ range. ¬ (Holds range address)) ranges no_range (λ place lt holds.
      let row = are.has_row place lt in never row.0 row.1 (held_so row.0 row.1 (let P : ℕ → Type 0 = λ n. Holds (range_at ranges n) address in subst P (sym row.2) holds)))

  -- the last row that holds the address is that of the range that is found
  found : (j : ℕ) → j < length rows → HoldsAt (row_at rows j) address → ((i : ℕ) → j < i → i < length rows → ¬ (HoldsAt (row_at rows i) address)) → IsFoundAt ranges address (row_at rows j).place.0
  found j lt holds later =
      let place = (row_at rows j).place.0 in
      let row = are.row_is j lt in
      let here : (other : ℕ) (d : AddressRange) → other < length ranges → range_at ranges other ≡ get_or ranges other d = λ other d below. get_or_default ranges other no_range d below in
      let P : AddressRange → Type 0 = λ r. Holds r address in
      record {
        within = row.0;
        holds = λ d. subst P (here place d row.0) (held j lt holds);
        first = λ other d below other_holds.
            let there = are.has_row other below in
            let N : ℕ → Type 0 = λ n. Holds (range_at ranges n) address in
            let also : HoldsAt (row_at rows there.0) address = held_so there.0 there.1 (subst N (sym there.2) (subst P (sym (here other d below)) other_holds)) in
            let its : (row_at rows there.0).address ≡ (get_or ranges other d).address = (are.row_is there.0 there.1).1 ∙ ap (λ (n : ℕ). (range_at ranges n).address) there.2 ∙ ap (λ (r : AddressRange). r.address) (here other d below) in
            let own : (row_at rows j).address ≡ (get_or ranges place d).address = row.1 ∙ ap (λ (r : AddressRange). r.address) (here place d row.0) in
            elim (cases_lt j there.0) [
              | inl behind ↦ absurd (later there.0 behind there.1 also)
              | inr le ↦ elim (are.rise there.0 j le lt) [
                | inl lower ↦ inl (omega (arith, lower, its, own))
                | inr same ↦ inr (omega (arith, same.0, its, own), omega (arith, same.1, there.2))
              ]
            ];
      }

  pub by_rows : (place : Option ℕ) → IsLastAt rows (length rows) address place → MatchOption place (NoneHolds ranges address) (IsFoundAt ranges address)
  by_rows None never = none never
  by_rows (Some p) last = let P : ℕ → Type 0 = λ n. IsFoundAt ranges address n in subst P (sym last.4) (found last.0 last.1 last.2 last.3)

-- the spans of the rows are those of their ranges
pub spans_of_ranges : (ranges : List AddressRange) (rows : List Row) (spans : List Span) → AreRowsOf ranges rows → AreSwept rows spans → AreSpansOf ranges spans
spans_of_ranges ranges rows spans are swept k address fits at = by_rows ranges rows are address fits (span_at spans k).place (swept.each k address fits at)
