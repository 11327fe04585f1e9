-- The bars of a picture: which are shown, and how long they are.
use Rattle.std.specs.Prelude.{ℕ, zero, suc, ◌+◌, ◌-◌, ◌*◌, ◌/◌, ◌%◌, ◌<◌, ◌≤◌, List, [], ◌∷◌, ◌++◌, length, max, take, drop, codes, nat_eq, nat_le, nat_lt, Option, Some, None, if◌then◌else◌, slice_index_or}
use Rattle.std.specs.Fmt.{decimal}
use Rattle.std.specs.List.{sum_by}
use Rattle.std.specs.List.Sorted.{IsStableByKey}
use Rattle.std.specs.Ordering.{nat_cmp}

-- a name and a size
pub record Row : Type 0 where
  pub name : List ℕ
  pub size : ℕ

abbrev pub total : List Row → ℕ
total rows = sum_by (λ r. r.size) rows

-- no size is greater than one before it
abbrev pub Falls : List Row → Type 0
Falls rows = (i j : ℕ) (d : Row) → i ≤ j → j < length rows → (slice_index_or rows j d).size ≤ (slice_index_or rows i d).size

-- rows of one size keep their given order
abbrev pub KeepsOrder : List Row → List Row → Type 0
KeepsOrder given falling = IsStableByKey (λ (r : Row). r.size) nat_cmp given falling

-- `[{count} others]`
abbrev pub others_label : ℕ → List ℕ
others_label count = codes "[" ++ (decimal count ++ codes " others]")

-- the row that sums up these
abbrev pub others : List Row → Row
others rows = record { name = others_label (length rows); size = total rows }

-- the first rows, and if there are more, one for the others
abbrev pub with_others : (count : ℕ) → List Row → List Row
with_others count rows = if nat_le (length rows) count then rows else (take count rows ++ (others (drop count rows) ∷ []))

-- how many rows are shown before that of the others: the first ones that are asked for; otherwise all of up to 40, and of more 39
abbrev pub count_of : (first : Option ℕ) → (all : ℕ) → ℕ
count_of (Some count) all = count
count_of None all = if nat_le all 40 then all else 39

-- the rows that are shown
abbrev pub shown : (first : Option ℕ) → List Row → List Row
shown first rows = with_others (count_of first (length rows)) rows

-- all shares together: 100 per cent, in hundredths of a per cent
abbrev pub whole : ℕ
whole = 10000

-- the share of the whole before a point, rounded down
abbrev pub edge : ℕ → ℕ → ℕ
edge total before = (whole * before) / total

-- the length of a bar: from its edge to the next one's
abbrev pub bar_length : ℕ → ℕ → ℕ → ℕ
bar_length total before size = edge total (before + size) - edge total before

-- the lengths of the bars of rows, with so much before the first
abbrev pub lengths : ℕ → ℕ → List Row → List ℕ
lengths total before [] = []
lengths total before (row ∷ others) = bar_length total before row.size ∷ lengths total (before + row.size) others

-- the largest size
abbrev pub largest : List Row → ℕ
largest [] = 0
largest (r ∷ others) = max r.size (largest others)

-- the width of a bar, in hundredths of a per cent of the largest one's; but of a size above 0 at least 0.30 per cent, so that it is seen
abbrev pub width : (most size : ℕ) → ℕ
width most size = if nat_eq size 0 then 0 else max ((whole * size) / most) 30

-- the length differs by less than one unit from the row's share of the whole
abbrev pub IsWithinOne : ℕ → Row → ℕ → Type 0
IsWithinOne total row length = (length * total < whole * row.size + total) × (whole * row.size < (length + 1) * total)

-- hundredths of a per cent, as per cents with two decimals
unfoldable pub percents : ℕ → List ℕ
percents n = decimal (n / 100) ++ (codes "." ++ (decimal (n / 10 % 10) ++ decimal (n % 10)))

-- the last group of three digits, after a comma
abbrev pub last_group : ℕ → List ℕ
last_group n = codes "," ++ (decimal (n / 100 % 10) ++ (decimal (n / 10 % 10) ++ decimal (n % 10)))

-- a number in decimal digits, with a comma before each of its last groups of three, at most so many
abbrev pub groups : (most : ℕ) → ℕ → List ℕ
groups zero n = decimal n
groups (suc most) n = if nat_lt n 1000 then decimal n else (groups most (n / 1000) ++ last_group n)

-- a size in tenths of a unit, rounded to the nearest
abbrev pub tenths_of : (unit size : ℕ) → ℕ
tenths_of unit size = (size * 10 + unit / 2) / unit

-- a size in this unit, with one decimal and the unit's name; 2^64 bytes have fewer than 18 digits before it
unfoldable pub in_unit : (unit : ℕ) → (name : List ℕ) → (size : ℕ) → List ℕ
in_unit unit name size = groups 6 (tenths_of unit size / 10) ++ (codes "." ++ (decimal (tenths_of unit size % 10) ++ (codes " " ++ name)))

-- a size in KiB, and from 1 MiB on in MiB
unfoldable pub amount : ℕ → List ℕ
amount size = if nat_lt size 1048576 then in_unit 1024 (codes "KiB") size else in_unit 1048576 (codes "MiB") size
