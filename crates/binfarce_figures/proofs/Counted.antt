-- Sums, and counts of what is summed.
use Rattle.std.proofs.Common.{◌≡◌, ℕ, ◌+◌, ◌<◌, ◌^◌, Bool, true, false, List, [], ◌∷◌, BTreeMap, String, length, map-id, filter, refl, sym, ap, subst, ◌∙◌, arith}
use Rattle.std.specs.Global.{Global}
use Rattle.std.specs.Prelude.{if◌then◌else◌}
use Rattle.std.specs.Str.{bytes_eq}
use Rattle.binfarce_tools.specs.Report.{Share, sum_of, total}
use Rattle.binfarce_tools.proofs.CrateSums.{sum_of-cons, total-cons}
use Rattle.binfarce_figures.specs.declared.sums.Counting.TheVariants.{Symbols}
use Rattle.binfarce_figures.specs.declared.sums.Numbers.{Numbers}
use Rattle.binfarce_figures.specs.Figures.{copies_of}
use Rattle.binfarce_figures.specs.machine.Counts.{AddsShares, AreNumbersOf, firsts, seconds}
use Rattle.binfarce_figures.proofs.Numbers.{none_yet}

-- a share of size 1 for each
abbrev pub ones : List Share → List Share
ones shares = seconds Symbols shares

-- the sum of shares of size 1 is their count
kept : (b : Bool) (s : Share) (others : List Share) → length (if b then s ∷ others else others) ≡ (if b then 1 else 0) + length others
kept true s others = let one : length (s ∷ others) ≡ 1 + length others = omega arith in one
kept false s others = let none : length others ≡ 0 + length others = omega arith in none

pub counts_are : (shares : List Share) (name : List ℕ) → sum_of (ones shares) name ≡ copies_of shares name
counts_are [] name = refl
counts_are (s ∷ shares) name =
    sum_of-cons (record { name = s.name; size = 1 }) (ones shares) name
    ∙ ap (λ (n : ℕ). (if bytes_eq s.name name then 1 else 0) + n) (counts_are shares name)
    ∙ sym (kept (bytes_eq s.name name) s (filter (λ (s : Share). bytes_eq s.name name) shares))

count_is : (shares : List Share) → total (ones shares) ≡ length shares
count_is [] = refl
count_is (s ∷ shares) = omega (arith, total-cons (record { name = s.name; size = 1 }) (ones shares), count_is shares)

-- sums and counts, of a map that had no entries
pub of_symbols : (shares : List Share) (old new : BTreeMap (String Global) Numbers) → old.entries ≡ [] → AddsShares Symbols shares old new → total shares < 2 ^ 64 → length shares < 2 ^ 64 → AreNumbersOf shares (ones shares) new
of_symbols shares old new empty adds fits few =
    let same : firsts Symbols shares ≡ shares = map-id shares in
    let count : total (ones shares) < 2 ^ 64 = omega (arith, count_is shares, few) in
    subst (λ (xs : List Share). AreNumbersOf xs (ones shares) new) same (adds [] [] (subst (λ (xs : List Share). total xs < 2 ^ 64) (sym same) fits) count (none_yet old empty))
