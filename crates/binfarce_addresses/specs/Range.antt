-- Ranges of addresses, and the one that is found at an address.
use Rattle.std.specs.Prelude.{◌≡◌, ℕ, ◌+◌, ◌^◌, ◌<◌, ◌≤◌, ◌⊎◌, max, List, All, length, slice_index_or, None, MatchOption}
use Rattle.binfarce_addresses.specs.declared.ranges.AddressRange.{AddressRange}
use Rattle.binfarce_addresses.specs.declared.ranges.Span.{Span}

-- the address lies in the range: from the range's address on, and before its end, which may lie past 64 bits. A range of size 0 holds its own address
-- alone
abbrev pub Holds : AddressRange → ℕ → Type 0
Holds range address = (range.address ≤ address) × (address < range.address + max range.size 1)

-- no range holds the address
abbrev pub NoneHolds : List AddressRange → ℕ → Type 0
NoneHolds ranges address = All (λ range. ¬ (Holds range address)) ranges

-- the range at this place is found at the address: it holds it, and any other that does has a lower address, or the same address and a later place
pub record IsFoundAt (ranges : List AddressRange) (address place : ℕ) : Type 0 where
  pub within : place < length ranges
  pub holds : (d : AddressRange) → Holds (slice_index_or ranges place d) address
  pub first : (other : ℕ) (d : AddressRange) → other < length ranges → Holds (slice_index_or ranges other d) address
      → ((slice_index_or ranges other d).address < (slice_index_or ranges place d).address)
      ⊎ (((slice_index_or ranges other d).address ≡ (slice_index_or ranges place d).address) × (place ≤ other))

-- the span that is read past the end
abbrev pub no_span : Span
no_span = record { start = 0; place = None }

abbrev pub span_at : List Span → ℕ → Span
span_at spans k = slice_index_or spans k no_span

-- the spans begin at 0, and none begins before an earlier one
pub record AreSpans (spans : List Span) : Type 0 where
  pub some : 0 < length spans
  pub first : (span_at spans 0).start ≡ 0
  pub rise : (i j : ℕ) → i ≤ j → j < length spans → (span_at spans i).start ≤ (span_at spans j).start

-- the span is that at the address: it begins there or before, and the next one behind it
abbrev pub IsSpanAt : List Span → ℕ → ℕ → Type 0
IsSpanAt spans address k = (k < length spans) × ((span_at spans k).start ≤ address) × (k + 1 < length spans → address < (span_at spans (k + 1)).start)

-- the spans are a view of the ranges: at each address of 64 bits the span there has the place of the range that is found, or none where no range holds it
abbrev pub AreSpansOf : List AddressRange → List Span → Type 0
AreSpansOf ranges spans =
    (k address : ℕ) → address < 2 ^ 64 → IsSpanAt spans address k → MatchOption (span_at spans k).place (NoneHolds ranges address) (IsFoundAt ranges address)
