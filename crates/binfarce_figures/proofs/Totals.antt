-- The sums of the crates of shares add up to the sum of all shares.
use Rattle.std.proofs.Common.{◌≡◌, ℕ, ◌+◌, Bool, true, false, List, [], ◌∷◌, ◌||◌, map, refl, sym, ap, subst, ◌∙◌, arith}
use Rattle.std.proofs.lemmas.List.Elements.{All-head, All-tail}
use Rattle.std.proofs.lemmas.List.Sums.{sum_by-cons}
use Rattle.std.proofs.lemmas.Map.Text.{is_eq-slice_cmp}
use Rattle.std.proofs.lemmas.Map.Views.{list_any-from_Contains}
use Rattle.std.specs.Cmp.Lexicographic.{bytes_decides, nat_list_eq_equiv, slice_cmp}
use Rattle.std.specs.List.{All, AllByRecursion, Contains, list_any}
use Rattle.std.specs.List.Sorted.{IsStrictlySortedBy}
use Rattle.std.specs.Ordering.{is_eq, nat_cmp}
use Rattle.std.specs.declared.cmp.Ordering.TheVariants.{Less}
use Rattle.std.specs.Prelude.{if◌then◌else◌}
use Rattle.std.specs.Str.{bytes_eq}
use Rattle.binfarce_chart.specs.Chart as chart
use Rattle.binfarce_chart.specs.Chart.{Row}
use Rattle.binfarce_tools.proofs.CrateSums.{added, sum_of-cons, total-cons}
use Rattle.binfarce_tools.specs.Report.{Share, AreCratesOf, sum_of, total}
use Rattle.binfarce_figures.specs.Picture.{key_rows}

-- a row for each name, of the size that the name has
abbrev rows_by : (List ℕ → ℕ) → List (List ℕ) → List Row
rows_by size names = map (λ (name : List ℕ). record { name = name; size = size name }) names

more : (r : Row) (others : List Row) → chart.total (r ∷ others) ≡ r.size + chart.total others
more r others = sum_by-cons (λ (r : Row). r.size) r others

nothing : (names : List (List ℕ)) → chart.total (rows_by (sum_of []) names) ≡ 0
nothing [] = refl
nothing (name ∷ names) = omega (arith, more (record { name = name; size = 0 }) (rows_by (sum_of []) names), nothing names)

-- the sum over two sizes of each name
both : (s : Share) (others : List Share) (names : List (List ℕ)) → chart.total (rows_by (sum_of (s ∷ others)) names) ≡ chart.total (rows_by (added s) names) + chart.total (rows_by (sum_of others) names)
both s others [] = refl
both s others (name ∷ names) = omega (
  arith,
  more (record { name = name; size = sum_of (s ∷ others) name }) (rows_by (sum_of (s ∷ others)) names),
  more (record { name = name; size = added s name }) (rows_by (added s) names),
  more (record { name = name; size = sum_of others name }) (rows_by (sum_of others) names),
  sum_of-cons s others name,
  both s others names,
)

-- a share adds nothing to the names that are above its own
above : (s : Share) (names : List (List ℕ)) → AllByRecursion (λ (name : List ℕ). slice_cmp nat_cmp s.name name ≡ Less) names → chart.total (rows_by (added s) names) ≡ 0
above s [] low = refl
above s (name ∷ names) low =
    let differ : bytes_eq s.name name ≡ false = sym (is_eq-slice_cmp s.name name) ∙ ap is_eq low.0 in
    let none : (if bytes_eq s.name name then s.size else 0) ≡ 0 = ap (λ (b : Bool). if b then s.size else 0) differ in
    omega (arith, more (record { name = name; size = added s name }) (rows_by (added s) names), none, above s names low.1)

-- what a share adds to the first of the names and to the others, by whether it is the first one's
by_first : (b : Bool) (s : Share) (rest : ℕ) (found : Bool) → (b ≡ true → rest ≡ 0) → (b ≡ false → found ≡ true → rest ≡ s.size) → (b || found) ≡ true → (if b then s.size else 0) + rest ≡ s.size
by_first true s rest found none one is = omega (arith, none refl)
by_first false s rest found none one is = omega (arith, one refl is)

-- a share adds its size to one of the names
one : (s : Share) (names : List (List ℕ)) → IsStrictlySortedBy (slice_cmp nat_cmp) names → list_any (bytes_eq s.name) names ≡ true → chart.total (rows_by (added s) names) ≡ s.size
unfolding IsStrictlySortedBy
one s [] rises is = absurd cc
one s (name ∷ names) rises is =
    more (record { name = name; size = added s name }) (rows_by (added s) names)
    ∙ by_first (bytes_eq s.name name) s (chart.total (rows_by (added s) names)) (list_any (bytes_eq s.name) names)
    (λ e. let P : List ℕ → Type 0 = λ n. AllByRecursion (λ (y : List ℕ). slice_cmp nat_cmp n y ≡ Less) names in above s names (subst P (sym ((bytes_decides s.name name).0 e)) rises.0))
    (λ e found. one s names rises.1 found) is

-- also if others are among the names
pub add_up : (shares : List Share) (names : List (List ℕ)) → IsStrictlySortedBy (slice_cmp nat_cmp) names → All (Contains names) (map (λ (s : Share). s.name) shares) → chart.total (rows_by (sum_of shares) names) ≡ total shares
add_up [] names rises every = nothing names
add_up (s ∷ others) names rises every =
    let found = list_any-from_Contains nat_list_eq_equiv s.name names (All-head (Contains names) s.name (map (λ (s : Share). s.name) others) every) in
    let rest = add_up others names rises (All-tail (Contains names) s.name (map (λ (s : Share). s.name) others) every) in
    omega (arith, both s others names, one s names rises found, rest, total-cons s others)

pub totals_add_up : (shares : List Share) (names : List (List ℕ)) → AreCratesOf shares names → chart.total (key_rows shares names) ≡ total shares
totals_add_up shares names are = add_up shares names are.rises are.every
