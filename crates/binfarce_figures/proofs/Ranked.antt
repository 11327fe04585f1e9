-- The figures of the two numbers of each key, and the sums over them.
use Rattle.std.proofs.Common.{◌≡◌, ℕ, ◌<◌, ◌≤◌, ◌^◌, Bool, not, List, [], ◌∷◌, map, drop, filter, take, String, BTreeMap, string_bytes, refl, sym, ap, subst, ◌∙◌, arith}
use Rattle.std.specs.Global.{Global}
use Rattle.std.specs.BTreeMap.{IsOrdered}
use Rattle.std.specs.List.{All, Contains, sum_by}
use Rattle.std.specs.List.Sorted.{IsPermutation}
use Rattle.std.specs.String.{string_cmp}
use Rattle.std.proofs.lemmas.List.{take-append-drop}
use Rattle.std.proofs.lemmas.List.Filters.{sum_by-filter_both}
use Rattle.std.proofs.lemmas.List.Sums.{sum_by-append, sum_by-cons}
use Rattle.std.proofs.lemmas.List.Sorted.{sum_by-IsPermutation}
use Rattle.binfarce_chart.specs.Chart.{Row as Bar}
use Rattle.binfarce_tools.specs.Report.{Share, AreCratesOf, sum_of}
use Rattle.binfarce_figures.proofs.Totals.{add_up}
use Rattle.binfarce_figures.specs.declared.figures.Columns.{Columns}
use Rattle.binfarce_figures.specs.declared.figures.Figure.{Figure}
use Rattle.binfarce_figures.specs.Figures.{figure_view, numbers_of}
use Rattle.binfarce_figures.specs.declared.sums.Numbers.{Numbers as Pair}
use Rattle.binfarce_figures.specs.machine.Columns.{has_row}
use Rattle.binfarce_figures.specs.machine.Counts.{AreNumbersOf}
use Rattle.binfarce_figures.proofs.Entries.{HaveNumbers, are_crates, have_numbers, texts_of}

abbrev Numbers : Type 0
Numbers = List ℕ × (ℕ × ℕ)

-- the sum over a part of a list
pub part_le : {X : Type 0} (f : X → ℕ) (xs : List X) (m n : ℕ) → sum_by f (take m (drop n xs)) ≤ sum_by f xs
part_le f xs m n =
    omega (arith, sum_by-append f (take m (drop n xs)) (drop m (drop n xs)), ap (sum_by f) (take-append-drop m (drop n xs)), sum_by-append f (take n xs) (drop n xs), ap (sum_by f) (take-append-drop n xs))

pub sum_map : {X Y : Type 0} (f : Y → ℕ) (g : X → Y) (xs : List X) → sum_by f (map g xs) ≡ sum_by (λ x. f (g x)) xs
sum_map f g [] = refl
sum_map f g (x ∷ xs) = omega (arith, sum_by-cons f (g x) (map g xs), sum_by-cons (λ x. f (g x)) x xs, sum_map f g xs)

-- the entries of a map that have a row
abbrev pub entry_numbers : Columns → List (String Global × Pair) → List Numbers
entry_numbers columns entries = filter (λ n. has_row columns n.1.0 n.1.1) (map (λ (e : String Global × Pair). (string_bytes e.0, (e.1.sum, e.1.other))) entries)

module _ (first second : List Share) (numbers : BTreeMap (String Global) Pair) (are : AreNumbersOf first second numbers) where
  numbers_are : (entries : List (String Global × Pair)) → HaveNumbers first second entries
      → map (λ (e : String Global × Pair). (string_bytes e.0, (e.1.sum, e.1.other))) entries ≡ numbers_of (sum_of first) (sum_of second) (texts_of entries)
  numbers_are [] have = refl
  numbers_are (e ∷ entries) have = λ i. (string_bytes e.0, (sym have.0.0 i, sym have.0.1 i)) ∷ numbers_are entries have.1 i

  -- the figures of all entries are those of the names
  pub are_figures : (columns : Columns) (figures : List Figure) → IsOrdered string_cmp numbers → map figure_view figures ≡ entry_numbers columns numbers.entries
      → (names : List (List ℕ)) × AreCratesOf first names × (map figure_view figures ≡ filter (λ n. has_row columns n.1.0 n.1.1) (numbers_of (sum_of first) (sum_of second) names))
  are_figures columns figures ordered is =
      (texts_of numbers.entries, are_crates first second numbers are ordered, is ∙ ap (filter (λ (n : Numbers). has_row columns n.1.0 n.1.1)) (numbers_are numbers.entries (have_numbers first second numbers are ordered)))

-- the sums over figures are no greater than those over all names
figures_le : (measure : Numbers → ℕ) (keep : Numbers → Bool) (sum other : List ℕ → ℕ) (names : List (List ℕ)) (figures sorted : List Figure)
    → map figure_view figures ≡ filter keep (numbers_of sum other names) → IsPermutation figures sorted → sum_by (λ (f : Figure). measure (figure_view f)) sorted ≤ sum_by (λ (name : List ℕ). measure (name, (sum name, other name))) names
figures_le measure keep sum other names figures sorted is same = omega (
  arith,
  sum_by-IsPermutation (λ (f : Figure). measure (figure_view f)) figures sorted same,
  sum_map measure figure_view figures,
  ap (sum_by measure) is,
  sum_by-filter_both keep (λ n. not (keep n)) (λ _. refl) measure (numbers_of sum other names),
  sum_map measure (λ (name : List ℕ). (name, (sum name, other name))) names,
)

pub both_fit : (first second : List Share) (numbers : BTreeMap (String Global) Pair) (keep : Numbers → Bool) (names : List (List ℕ)) (figures sorted : List Figure) → AreNumbersOf first second numbers → AreCratesOf first names
    → map figure_view figures ≡ filter keep (numbers_of (sum_of first) (sum_of second) names) → IsPermutation figures sorted → (sum_by (λ (f : Figure). f.sum) sorted < 2 ^ 64) × (sum_by (λ (f : Figure). f.other) sorted < 2 ^ 64)
both_fit first second numbers keep names figures sorted are crates is same = (
  omega (
    arith,
    figures_le (λ n. n.1.0) keep (sum_of first) (sum_of second) names figures sorted is same,
    sum_map (λ (r : Bar). r.size) (λ (name : List ℕ). record { name = name; size = sum_of first name }) names,
    add_up first names crates.rises crates.every,
    are.sums_fit,
  ),
  omega (
    arith,
    figures_le (λ n. n.1.1) keep (sum_of first) (sum_of second) names figures sorted is same,
    sum_map (λ (r : Bar). r.size) (λ (name : List ℕ). record { name = name; size = sum_of second name }) names,
    add_up second names crates.rises (subst (λ (ns : List (List ℕ)). All (Contains names) ns) (sym are.same_names) crates.every),
    are.others_fit,
  ),
)
