-- The sums of two files, each with the names of both.
use Rattle.std.proofs.Common.{◌≡◌, ℕ, ◌<◌, ◌^◌, Bool, true, false, List, [], ◌∷◌, ◌++◌, ◌∙◌, BTreeMap, String, codes, filter, map, map-id, refl, sym, ap, subst, arith}
use Rattle.std.specs.Global.{Global}
use Rattle.std.specs.List.{All, Contains}
use denote.Ref.{Bor}
use Rattle.std.specs.Prelude.{if◌then◌else◌}
use Rattle.std.specs.Str.{bytes_eq}
use Rattle.std.proofs.lemmas.List.{map-append}
use Rattle.binfarce_rows.specs.Json.{style_of}
use Rattle.binfarce_rows.specs.declared.json.Form.{Form}
use Rattle.binfarce_tools.specs.Report.{Share, AreCratesOf, sum_of, total}
use Rattle.binfarce_tools.proofs.CrateSums.{sum_of-cons, total-cons}
use Rattle.binfarce_rows.specs.Columns.{difference}
use Rattle.binfarce_figures.specs.declared.figures.Columns.TheVariants.{Changes}
use Rattle.binfarce_figures.specs.declared.sums.Counting.TheVariants.{Old, New}
use Rattle.binfarce_figures.specs.declared.sums.Figures.{Figures}
use Rattle.binfarce_figures.specs.declared.sums.Numbers.{Numbers}
use Rattle.binfarce_figures.specs.Changes.{IsTextOfChanges, change_row, differ}
use Rattle.binfarce_figures.specs.Figures.{AreRowsOf, numbers_of}
use Rattle.binfarce_figures.specs.machine.Columns.{AreRowsFor}
use Rattle.binfarce_figures.specs.machine.Counts.{AddsShares, AreNumbersOf, firsts, seconds}
use Rattle.binfarce_figures.proofs.Numbers.{none_yet, sum_of-append, total-append}

-- shares of size 0, which add nothing
abbrev pub zeros : List Share → List Share
zeros shares = firsts New shares

zero_total : (shares : List Share) → total (zeros shares) ≡ 0
zero_total [] = refl
zero_total (s ∷ shares) = omega (arith, total-cons (record { name = s.name; size = 0 }) (zeros shares), zero_total shares)

nothing_added : (b : Bool) → ◌≡◌ {A = ℕ} (if b then 0 else 0) 0
nothing_added true = refl
nothing_added false = refl

zero_sum : (shares : List Share) (name : List ℕ) → sum_of (zeros shares) name ≡ 0
zero_sum [] name = refl
zero_sum (s ∷ shares) name = omega (arith, sum_of-cons (record { name = s.name; size = 0 }) (zeros shares) name, nothing_added (bytes_eq s.name name), zero_sum shares name)

zero_names : (shares : List Share) → map (λ (s : Share). s.name) (zeros shares) ≡ map (λ (s : Share). s.name) shares
zero_names [] = refl
zero_names (s ∷ shares) = ap (λ (ns : List (List ℕ)). s.name ∷ ns) (zero_names shares)

-- the sums of the old file with the names of both, and those of the new one
pub first_sum : (old new : List Share) (name : List ℕ) → sum_of (old ++ zeros new) name ≡ sum_of old name
first_sum old new name = omega (arith, sum_of-append old (zeros new) name, zero_sum new name)

pub second_sum : (old new : List Share) (name : List ℕ) → sum_of (zeros old ++ new) name ≡ sum_of new name
second_sum old new name = omega (arith, sum_of-append (zeros old) new name, zero_sum old name)

-- the keys are those of both
of_both : (old new : List Share) (names : List (List ℕ)) → AreCratesOf (old ++ zeros new) names → AreCratesOf (old ++ new) names
of_both old new names are =
    let name = λ (s : Share). s.name in
    let same : map name (old ++ zeros new) ≡ map name (old ++ new) = map-append name old (zeros new) ∙ ap (λ (ns : List (List ℕ)). map name old ++ ns) (zero_names new) ∙ sym (map-append name old new) in
    record {
      rises = are.rises;
      every = subst (λ (ns : List (List ℕ)). All (Contains names) ns) same are.every;
      occurs = subst (λ (ns : List (List ℕ)). All (Contains ns) names) same are.occurs;
    }

-- the numbers of both files, of a map that had no entries
pub compared : (old new : List Share) (none mid numbers : BTreeMap (String Global) Numbers) → none.entries ≡ [] → AddsShares Old old none mid → AddsShares New new mid numbers → total old < 2 ^ 64 → total new < 2 ^ 64
    → AreNumbersOf (old ++ zeros new) (zeros old ++ new) numbers
compared old new none mid numbers empty was is old_fits new_fits =
    let old_is : firsts Old old ≡ old = map-id old in
    let new_is : seconds New new ≡ new = map-id new in
    let fits = λ (xs : List Share). total xs < 2 ^ 64 in
    let old_are = was [] [] (subst fits (sym old_is) old_fits) (omega (arith, zero_total old)) (none_yet none empty) in
    let named : AreNumbersOf old (zeros old) mid = subst (λ (xs : List Share). AreNumbersOf xs (zeros old) mid) old_is old_are in
    let both = is old (zeros old) (omega (arith, total-append old (zeros new), zero_total new, old_fits)) (omega (arith, total-append (zeros old) (seconds New new), ap total new_is, zero_total old, new_fits)) named in
    subst (λ (xs : List Share). AreNumbersOf (old ++ zeros new) (zeros old ++ xs) numbers) new_is both

-- the text of the rows of both, with that of the sums of all sizes
pub of_changes : (alloc : Global) (figures : Bor Figures) (form : Form) (old new : List Share) (was is : ℕ) (rows text : List ℕ) → was ≡ total old → is ≡ total new
    → AreRowsFor (record { alloc = alloc; figures = figures; form = form; columns = Changes }) (old ++ zeros new) (zeros old ++ new) rows
    → text ≡ rows ++ change_row figures.now (style_of form) (codes "[total]") was is → IsTextOfChanges figures.now (style_of form) old new text
of_changes alloc figures form old new was is rows text was_is is_is (names, crates, are) text_is =
    let row = change_row figures.now (style_of form) in
    let P : (List ℕ → ℕ) → (List ℕ → ℕ) → Type 0 = λ first second. AreRowsOf row figures.now.first difference (filter (λ n. differ n.1.0 n.1.1) (numbers_of first second names)) rows in
    let first : P (sum_of old) (sum_of (zeros old ++ new)) = subst (λ (f : List ℕ → ℕ). P f (sum_of (zeros old ++ new))) (λ i name. first_sum old new name i) are in
    (names, rows, of_both old new names crates, subst (P (sum_of old)) (λ i name. second_sum old new name i) first, text_is ∙ (λ i. rows ++ row (codes "[total]") (was_is i) (is_is i)))
