-- Rows in the order of a sort.
use Rattle.std.proofs.Common.{◌≡◌, ℕ, ◌<◌, ◌≤◌, Bool, false, ◌&&◌, ◌||◌, List, length, sym, ap, ◌∙◌, arith, nat_lt, nat_eq, nat_cmp, is_lt, IsPermutation}
use Rattle.std.specs.Cmp.{IsStrictWeakOrder}
use Rattle.std.specs.List.{Contains}
use Rattle.std.specs.List.Sorted.{IsSortedBy}
use Rattle.std.specs.Ordering.{ordering_then}
use Rattle.std.proofs.lemmas.Bool.Decides.{nat_tests}
use Rattle.std.proofs.lemmas.List.{get_or_default}
use Rattle.std.proofs.lemmas.List.Elements.{All-get_or, All-from_get_or, Contains-get_or}
use Rattle.std.proofs.lemmas.List.Sorted.{sorted_far, All-permutation, Contains-permutation, length_permutation}
use Rattle.binfarce_addresses.specs.declared.ranges.AddressRange.{AddressRange}
use Rattle.binfarce_addresses.specs.declared.ranges.Row.{Row}
use Rattle.binfarce_addresses.specs.machine.Sweep.{AreRowsOf, NotBehind, last_of, range_at, row_at, no_row}

-- by address, at equal addresses from the last place to the first, and at equal places by the last address
abbrev pub comes_before : Row → Row → Bool
comes_before x y = nat_lt x.address y.address || (nat_eq x.address y.address && (nat_lt y.place.0 x.place.0 || (nat_eq y.place.0 x.place.0 && nat_lt x.last y.last)))

-- the derived comparison is the test
pub lt_is : (x y : Row) → is_lt (ordering_then (nat_cmp x.address y.address) (ordering_then (nat_cmp y.place.0 x.place.0) (nat_cmp x.last y.last))) ≡ comes_before x y
lt_is x y = grind (arith, nat_tests)

is_order : IsStrictWeakOrder comes_before
is_order = record { one_way = λ x y e. grind (arith, nat_tests); chain = λ x y z e f. grind (arith, nat_tests) }

-- rows as they are made, one for each range before a place
pub record AreMade (ranges : List AddressRange) (rows : List Row) (place : ℕ) : Type 0 where
  pub count : length rows ≡ place
  pub each : (k : ℕ) → k < place → ((row_at rows k).address ≡ (range_at ranges k).address) × ((row_at rows k).place.0 ≡ k) × ((row_at rows k).last ≡ last_of (range_at ranges k)) × ((row_at rows k).address ≤ (row_at rows k).last)

-- the row is that of a range
abbrev IsRow : List AddressRange → Row → Type 0
IsRow ranges row = (row.place.0 < length ranges) × (row.address ≡ (range_at ranges row.place.0).address) × (row.last ≡ last_of (range_at ranges row.place.0)) × (row.address ≤ row.last)

made_row : (ranges : List AddressRange) (rows : List Row) (k : ℕ) → AreMade ranges rows (length ranges) → k < length rows → IsRow ranges (row_at rows k)
made_row ranges rows k made lt =
    let here = made.each k (omega (arith, made.count)) in (
      omega (arith, here.1, made.count),
      here.0 ∙ ap (λ (n : ℕ). (range_at ranges n).address) (sym here.1),
      here.2 ∙ ap (λ (n : ℕ). last_of (range_at ranges n)) (sym here.1),
      here.3,
    )

-- the same rows in the order of a sort
pub arranged_rows : (ranges : List AddressRange) (rows sorted : List Row) → AreMade ranges rows (length ranges) → IsPermutation rows sorted → IsSortedBy comes_before sorted → AreRowsOf ranges sorted
arranged_rows ranges rows sorted made same up = record {
  count = length_permutation rows sorted same ∙ made.count;
  row_is = λ k lt. let row = sorted_row k lt in (row.0, row.1, row.2);
  hold = λ k lt. (sorted_row k lt).3;
  has_row = λ place lt.
      let row = row_at rows place in
      let found : Contains sorted row = Contains-permutation rows sorted row same (Contains-get_or rows place no_row (omega (arith, made.count))) in
      (found.0, found.1, ap (λ (r : Row). r.place.0) (get_or_default sorted found.0 no_row row found.1 ∙ found.2) ∙ (made.each place lt).1);
  rise = λ i j le lt. not_behind (row_at sorted i) (row_at sorted j) (sorted_far comes_before is_order sorted up i j no_row le lt);
}
  where
    sorted_row : (k : ℕ) → k < length sorted → IsRow ranges (row_at sorted k)
    sorted_row k lt = All-get_or (IsRow ranges) sorted k no_row lt (All-permutation (IsRow ranges) rows sorted same (All-from_get_or (IsRow ranges) rows no_row (λ i within. made_row ranges rows i made within)))

    not_behind : (x y : Row) → comes_before y x ≡ false → NotBehind x y
    not_behind x y e = grind (arith, nat_tests)
