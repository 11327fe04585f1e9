-- The sweep over rows of ranges, in the order of their addresses.
use Rattle.std.specs.Prelude.{◌≡◌, ℕ, ◌+◌, ◌-◌, ◌^◌, ◌<◌, ◌≤◌, ◌⊎◌, max, min, List, length, slice_index_or, Option, MatchOption}
use Rattle.binfarce_addresses.specs.declared.ranges.AddressRange.{AddressRange}
use Rattle.binfarce_addresses.specs.declared.ranges.Row.{Row}
use Rattle.binfarce_addresses.specs.declared.ranges.Span.{Span}
use Rattle.binfarce_addresses.specs.Range.{AreSpans, IsSpanAt, span_at}

-- the range that is read past the end
abbrev pub no_range : AddressRange
no_range = record { address = 0; size = 0 }

abbrev pub no_row : Row
no_row = record { address = 0; place = record { 0 = 0 }; last = 0 }

abbrev pub range_at : List AddressRange → ℕ → AddressRange
range_at ranges k = slice_index_or ranges k no_range

abbrev pub row_at : List Row → ℕ → Row
row_at rows k = slice_index_or rows k no_row

-- the last address of 64 bits that the range holds
abbrev pub last_of : AddressRange → ℕ
last_of range = min (range.address + (max range.size 1 - 1)) (2 ^ 64 - 1)

-- of two rows the first has the lower address, or the same and the later place
abbrev pub NotBehind : Row → Row → Type 0
NotBehind x y = (x.address < y.address) ⊎ ((x.address ≡ y.address) × (y.place.0 ≤ x.place.0))

-- a row for each range, in their order
pub record AreRowsOf (ranges : List AddressRange) (rows : List Row) : Type 0 where
  pub count : length rows ≡ length ranges
  pub row_is : (k : ℕ) → k < length rows → ((row_at rows k).place.0 < length ranges) × ((row_at rows k).address ≡ (range_at ranges (row_at rows k).place.0).address) × ((row_at rows k).last ≡ last_of (range_at ranges (row_at rows k).place.0))
  pub hold : (k : ℕ) → k < length rows → (row_at rows k).address ≤ (row_at rows k).last
  pub has_row : (place : ℕ) → place < length ranges → (k : ℕ) × (k < length rows) × ((row_at rows k).place.0 ≡ place)
  pub rise : (i j : ℕ) → i ≤ j → j < length rows → NotBehind (row_at rows i) (row_at rows j)

-- rows in the order of their addresses, each of which holds its own
pub record AreInOrder (rows : List Row) : Type 0 where
  pub rise : (i j : ℕ) → i ≤ j → j < length rows → (row_at rows i).address ≤ (row_at rows j).address
  pub hold : (k : ℕ) → k < length rows → (row_at rows k).address ≤ (row_at rows k).last

-- the row's range holds the address
abbrev pub HoldsAt : Row → ℕ → Type 0
HoldsAt row address = (row.address ≤ address) × (address ≤ row.last)

-- of the first n rows, the last one that holds the address is that of this place; or none holds it
abbrev pub IsLastAt : List Row → ℕ → ℕ → Option ℕ → Type 0
IsLastAt rows n address place =
    MatchOption place ((j : ℕ) → j < n → ¬ (HoldsAt (row_at rows j) address))
    (λ p. (j : ℕ) × (j < n) × HoldsAt (row_at rows j) address × ((i : ℕ) → j < i → i < n → ¬ (HoldsAt (row_at rows i) address)) × (p ≡ (row_at rows j).place.0))

-- spans of all rows
pub record AreSwept (rows : List Row) (spans : List Span) : Type 0 where
  pub are : AreSpans spans
  pub each : (k address : ℕ) → address < 2 ^ 64 → IsSpanAt spans address k → IsLastAt rows (length rows) address (span_at spans k).place

-- where the last span begins
abbrev pub here : List Span → ℕ
here spans = (span_at spans (length spans - 1)).start

-- an open row: its place among the rows
abbrev pub stack_at : List ℕ → ℕ → ℕ
stack_at stack m = slice_index_or stack m 0

-- the last address that an open row holds
abbrev pub end_at : List Row → List ℕ → ℕ → ℕ
end_at rows stack m = (row_at rows (stack_at stack m)).last

-- the place of the last open row
abbrev pub IsInnermost : List Row → List ℕ → Option ℕ → Type 0
IsInnermost rows stack place =
    MatchOption place (length stack ≡ 0) (λ p. (0 < length stack) × (p ≡ (row_at rows (stack_at stack (length stack - 1))).place.0))

-- the last open row
abbrev pub IsInnermostRow : List Row → List ℕ → Option Row → Type 0
IsInnermostRow rows stack row =
    MatchOption row (length stack ≡ 0) (λ r. (0 < length stack) × (r ≡ row_at rows (stack_at stack (length stack - 1))))

-- all open rows reach the address
abbrev pub DoReach : List Row → List ℕ → ℕ → Type 0
DoReach rows stack address = (m : ℕ) → m < length stack → address ≤ end_at rows stack m

-- a sweep over the first n rows: each span but the last is final, and the last one is that of the last open row. The open rows end one before the other, the
-- last one first; from the last span on, a row that holds an address is open, or a later open one holds it too
pub record IsSweep (rows : List Row) (n : ℕ) (spans : List Span) (stack : List ℕ) : Type 0 where
  pub are : AreSpans spans
  pub final : (k address : ℕ) → k + 1 < length spans → (span_at spans k).start ≤ address → address < (span_at spans (k + 1)).start → IsLastAt rows n address (span_at spans k).place
  pub inner : IsInnermost rows stack (span_at spans (length spans - 1)).place
  pub known : (m : ℕ) → m < length stack → stack_at stack m < n
  pub begun : (m : ℕ) → m < length stack → (row_at rows (stack_at stack m)).address ≤ here spans
  pub reach : DoReach rows stack (here spans)
  pub later : (l m : ℕ) → l < m → m < length stack → stack_at stack l < stack_at stack m
  pub nested : (l m : ℕ) → l < m → m < length stack → end_at rows stack m < end_at rows stack l
  pub cover : (j address : ℕ) → j < n → here spans ≤ address → HoldsAt (row_at rows j) address → (m : ℕ) × (m < length stack) × (j ≤ stack_at stack m) × (address ≤ end_at rows stack m)
