-- Lengths of bars add up to the whole, each within one unit of its share.
use Rattle.std.proofs.Common.{◌≡◌, ℕ, ◌+◌, ◌-◌, ◌*◌, ◌/◌, ◌<◌, ◌≤◌, List, [], ◌∷◌, refl, ap, ◌∙◌, arith}
use Rattle.std.specs.List.{AllZip, sum_by}
use Rattle.std.proofs.lemmas.List.Sums.{sum_by-cons}
use Rattle.std.proofs.Math.Nat.{add-mul, div-mul-le_self, lt-div-mul-add, mul-div_left, zero-div}
use Rattle.std.proofs.lemmas.Nat.{le-div}
use Rattle.binfarce_chart.specs.Chart.{Row, total, whole, edge, bar_length, lengths, IsWithinOne}

-- the edge of a greater point is no less
edge_rises : (all a b : ℕ) → 0 < all → a ≤ b → edge all a ≤ edge all b
edge_rises all a b some le = div_rises (whole * a) (whole * b) all some (omega arith)
  where
    div_rises : (m n k : ℕ) → 0 < k → m ≤ n → m / k ≤ n / k
    div_rises m n k some le = le-div (m / k) n k some (omega (arith, div-mul-le_self m k))

total-cons : (r : Row) (others : List Row) → total (r ∷ others) ≡ r.size + total others
total-cons r others = sum_by-cons (λ (r : Row). r.size) r others

-- the sum of the lengths of the bars is what is between the first edge and the last
sum_is : (all before : ℕ) (rows : List Row) → 0 < all → sum_by (λ (n : ℕ). n) (lengths all before rows) ≡ edge all (before + total rows) - edge all before
sum_is all before [] some = let same : before + 0 ≡ before = omega arith in rw same (omega arith)
sum_is all before (r ∷ others) some =
    let last : before + total (r ∷ others) ≡ before + r.size + total others = omega (arith, total-cons r others) in
    rw last (omega (
      arith,
      sum_by-cons (λ (n : ℕ). n) (bar_length all before r.size) (lengths all (before + r.size) others),
      sum_is all (before + r.size) others some,
      edge_rises all before (before + r.size) some (omega arith),
      edge_rises all (before + r.size) (before + r.size + total others) some (omega arith),
    ))

pub adds_up : (rows : List Row) → 0 < total rows → sum_by (λ (n : ℕ). n) (lengths (total rows) 0 rows) ≡ whole
adds_up rows some =
    let first : edge (total rows) 0 ≡ 0 = zero-div (total rows) in
    let last : edge (total rows) (total rows) ≡ whole = mul-div_left whole some in
    let from_none : 0 + total rows ≡ total rows = omega arith in
    sum_is (total rows) 0 rows some ∙ rw (from_none, first, last) refl

parted : (q p : ℕ) → p ≤ q → q ≡ (q - p) + p
parted q p low = omega arith

parts : (p q all before size : ℕ) → p ≤ q → p * all ≤ whole * before → whole * before < p * all + all → q * all ≤ whole * (before + size) → whole * (before + size) < q * all + all
    → ((q - p) * all < whole * size + all) × (whole * size < (q - p + 1) * all)
parts p q all before size low a b c d =
    let n = q - p in
    let split : q * all ≡ n * all + p * all = ap (λ (m : ℕ). m * all) (parted q p low) ∙ add-mul n p all in
    let more : (n + 1) * all ≡ n * all + 1 * all = add-mul n 1 all in
    (omega (arith, split), omega (arith, split, more))

-- a length differs by less than one unit from its share
within : (all before : ℕ) (r : Row) → 0 < all → IsWithinOne all r (bar_length all before r.size)
within all before r some =
    let p = edge all before in
    let q = edge all (before + r.size) in
    let low = edge_rises all before (before + r.size) some (omega arith) in
    parts p q all before r.size low
    (div-mul-le_self (whole * before) all) (lt-div-mul-add {a = whole * before} some)
    (div-mul-le_self (whole * (before + r.size)) all) (lt-div-mul-add {a = whole * (before + r.size)} some)

pub all_within : (all before : ℕ) (rows : List Row) → 0 < all → AllZip (IsWithinOne all) rows (lengths all before rows)
all_within all before [] some = tt
all_within all before (r ∷ others) some = (within all before r some, all_within all (before + r.size) others some)
