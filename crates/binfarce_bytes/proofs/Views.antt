-- Rows as they are seen: sorted rows are sorted as seen.
use Rattle.std.proofs.Common.{◌≡◌, ◌+◌, ◌<◌, Bool, List, length, arith, IsPermutation}
use Rattle.std.specs.List.Sorted.{IsSortedBy, IsNonDecreasingBy}
use Rattle.std.proofs.lemmas.List.{get_or-map, length-map}
use Rattle.std.proofs.lemmas.List.Sorted.{IsPermutation-map}
use Rattle.binfarce_bytes.specs.declared.sizes.RowAddress as code
use Rattle.binfarce_bytes.specs.Sizes.{RowAddress, comes_before, arranged}
use Rattle.binfarce_bytes.specs.RowViews.{row_view, rows_view}
use Rattle.binfarce_bytes.proofs.Arranging.{arrangement_is, addresses_rise}

abbrev pub before : code.RowAddress → code.RowAddress → Bool
before x y = comes_before (row_view x) (row_view y)

sorted_view : (rows : List code.RowAddress) → IsSortedBy before rows → IsSortedBy comes_before (rows_view rows)
sorted_view rows up k d low high =
    let coded : code.RowAddress = record { address = d.address; index = d.row } in
    let within : k + 1 < length rows = omega (arith, length-map rows row_view) in
    rw (get_or-map row_view rows (k + 1) coded d within, get_or-map row_view rows k coded d (omega arith)) (up k coded low within)

-- sorted rows are the arrangement
pub arrangement_view : (xs ys : List code.RowAddress) → IsPermutation xs ys → IsSortedBy before ys → rows_view ys ≡ arranged (rows_view xs)
arrangement_view xs ys same up = arrangement_is (rows_view xs) (rows_view ys) (IsPermutation-map row_view xs ys same) (sorted_view ys up)

-- and their addresses don't fall
pub addresses_rise_view : (xs : List code.RowAddress) → IsSortedBy before xs → IsNonDecreasingBy (λ r. r.address) xs
addresses_rise_view xs up i j d le lt =
    let coded : RowAddress = row_view d in
    let far = addresses_rise (rows_view xs) (sorted_view xs up) i j coded le (omega (arith, length-map xs row_view)) in
    rw (get_or-map row_view xs i d coded (omega arith), get_or-map row_view xs j d coded lt) at far
