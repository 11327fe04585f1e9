-- Rows arranged by address, and the least address above another: these give sizes where a format stores none.
use Rattle.std.specs.Prelude.{◌≡◌, ℕ, ◌+◌, ◌<◌, Bool, true, ◌&&◌, ◌||◌, List, [], ◌∷◌, length, map, filter, min, Option, Some, None, nat_lt, nat_eq, slice_index_or, if◌then◌else◌}
use Rattle.std.specs.List.Sorted.{IsPermutation}
use Rattle.binfarce_bytes.specs.Entries.{Entry}

-- a row of a symbol table: its address, and its number in the table
pub record RowAddress : Type 0 where
  pub address : ℕ
  pub row : ℕ

-- by address, and at equal addresses by the number of the row
abbrev pub comes_before : RowAddress → RowAddress → Bool
comes_before x y = nat_lt x.address y.address || (nat_eq x.address y.address && nat_lt x.row y.row)

-- one row more, after those that come before it
abbrev pub put_in : RowAddress → List RowAddress → List RowAddress
put_in x [] = x ∷ []
put_in x (y ∷ ys) = if comes_before y x then y ∷ put_in x ys else x ∷ y ∷ ys

-- the rows in the order of (address, row number)
unfoldable pub arranged : List RowAddress → List RowAddress
arranged [] = []
arranged (x ∷ xs) = put_in x (arranged xs)

-- (address, row number) rises strictly
abbrev pub RisesStrictly : List RowAddress → Type 0
RisesStrictly rows = (k : ℕ) (d : RowAddress) → k + 1 < length rows → comes_before (slice_index_or rows k d) (slice_index_or rows (k + 1) d) ≡ true

-- the same rows, in strictly rising order
pub record IsArrangementOf (rows in_order : List RowAddress) : Type 0 where
  pub same : IsPermutation rows in_order
  pub rises : RisesStrictly in_order

-- a law of order for an answer: its entries are those given for the rows in arranged order
pub record ListsArranged (rows : List RowAddress) (Given : List RowAddress → List Entry → Type 0) (entries : List Entry) : Type 0 where
  pub in_order : List RowAddress
  pub arrangement : IsArrangementOf rows in_order
  pub given : Given in_order entries

abbrev pub addresses_of : List RowAddress → List ℕ
addresses_of rows = map (λ r. r.address) rows

-- x, or the member if that is less
abbrev pub least_of : ℕ → Option ℕ → ℕ
least_of x None = x
least_of x (Some member) = min x member

-- the least member of a set, given as a list of its members in any order
abbrev pub least : List ℕ → Option ℕ
least [] = None
least (x ∷ xs) = Some (least_of x (least xs))

-- the least member of the set above a
unfoldable pub least_above : List ℕ → ℕ → Option ℕ
least_above members a = least (filter (λ b. nat_lt a b) members)
