-- What is summed for a key, by the numbers of keys.
use Rattle.std.proofs.Common.{◌≡◌, ◌∙◌, ◌<◌, ◌^◌, ℕ, Bool, List, [], ◌∷◌, ◌++◌, ◌||◌, Option, Some, None, BTreeMap, String, append-nil, refl, sym, ap, ap₂, subst, unwrap_or, if◌then◌else◌, lit<}
use Rattle.std.specs.BTreeMap.{get_by_text}
use Rattle.std.specs.Global.{Global}
use Rattle.std.specs.Option.{is_some, option_map}
use Rattle.std.specs.Str.{bytes_eq}
use Rattle.std.proofs.lemmas.List.Folds.{list_any-append}
use Rattle.binfarce.specs.SectionEntries.{SelectedSymbols}
use Rattle.binfarce_tools.specs.Report.{Share, sum_of, total}
use Rattle.binfarce_tools.specs.Sums.{occurs}
use Rattle.binfarce_figures.specs.declared.key.Grouping.{Grouping}
use Rattle.binfarce_figures.specs.declared.sums.Counting.TheVariants.{Old, New}
use Rattle.binfarce_figures.specs.declared.sums.Numbers.{Numbers}
use Rattle.binfarce_figures.specs.Changes.{AreClaimsIf, AreSizesFrom, sizes_at}
use Rattle.binfarce_figures.specs.Claimed.{AreClaimsFor, Claimed}
use Rattle.binfarce_figures.specs.machine.Counts.{AddsShares, AreNumbersOf}
use Rattle.binfarce_figures.specs.machine.Shares.{AreSharesWith}
use Rattle.binfarce_figures.proofs.Changed.{compared, first_sum, second_sum, zeros}
use Rattle.binfarce_figures.proofs.Summed.{shares_in}

abbrev none : Numbers
none = record { sum = 0; other = 0 }

both_sized : (o : Option Numbers) (old new : ℕ) (has : Bool) → old ≡ (unwrap_or o none).sum → new ≡ (unwrap_or o none).other → has ≡ is_some o
    → option_map {U = ℕ × ℕ} (λ n. (n.sum, n.other)) o ≡ (if has then Some (old, new) else None)
both_sized None old new has was is there = ap (λ (b : Bool). if b then Some (old, new) else None) (sym there)
both_sized (Some n) old new has was is there = ap₂ (λ (a b : ℕ). Some (a, b)) (sym was) (sym is) ∙ ap (λ (b : Bool). if b then Some (old, new) else None) (sym there)

zero_occurs : (shares : List Share) (name : List ℕ) → occurs (zeros shares) name ≡ occurs shares name
zero_occurs [] name = refl
zero_occurs (s ∷ shares) name = ap (λ (b : Bool). bytes_eq s.name name || b) (zero_occurs shares name)

same_keys : (old new : List Share) (name : List ℕ) → occurs (old ++ zeros new) name ≡ occurs (old ++ new) name
same_keys old new name =
    let test = λ (s : Share). bytes_eq s.name name in
    list_any-append test old (zeros new) ∙ ap (λ (b : Bool). occurs old name || b) (zero_occurs new name) ∙ sym (list_any-append test old new)

sizes_are : (old new : List Share) (numbers : BTreeMap (String Global) Numbers) → AreNumbersOf (old ++ zeros new) (zeros old ++ new) numbers → (name : List ℕ) → option_map {U = ℕ × ℕ} (λ n. (n.sum, n.other)) (get_by_text numbers name) ≡ sizes_at old new name
sizes_are old new numbers are name =
    both_sized (get_by_text numbers name) (sum_of old name) (sum_of new name) (occurs (old ++ new) name)
    (sym (first_sum old new name) ∙ are.sums_are name) (sym (second_sum old new name) ∙ are.others_are name) (sym (same_keys old new name) ∙ are.names_are name)

-- of two files
pub sizes_between : (grouping : Grouping) (was : Option SelectedSymbols) (is : SelectedSymbols) (old new : Claimed) (none mid numbers : BTreeMap (String Global) Numbers) (a b : List Share) → AreClaimsIf was (Some old) → AreClaimsFor is new → AreSharesWith grouping old a → AreSharesWith grouping new b
    → none.entries ≡ [] → AddsShares Old a none mid → AddsShares New b mid numbers → total a < 2 ^ 64 → total b < 2 ^ 64 → AreSizesFrom grouping was is numbers
sizes_between grouping (Some was) is old new none mid numbers a b before after a_with b_with empty a_adds b_adds a_fits b_fits =
    (a, b, shares_in grouping was old a before a_with, shares_in grouping is new b after b_with, sizes_are a b numbers (compared a b none mid numbers empty a_adds b_adds a_fits b_fits))
sizes_between grouping None is old new none mid numbers a b before after a_with b_with empty a_adds b_adds a_fits b_fits = absurd before

no_shares : (numbers : BTreeMap (String Global) Numbers) → AddsShares Old [] numbers numbers
no_shares numbers first second fits others_fit are =
    subst (λ (xs : List Share). AreNumbersOf xs (second ++ []) numbers) (sym (append-nil first)) (subst (λ (ys : List Share). AreNumbersOf first ys numbers) (sym (append-nil second)) are)

-- of one
pub sizes_alone : (grouping : Grouping) (was : Option SelectedSymbols) (is : SelectedSymbols) (new : Claimed) (none numbers : BTreeMap (String Global) Numbers) (b : List Share) → AreClaimsIf was None → AreClaimsFor is new → AreSharesWith grouping new b
    → none.entries ≡ [] → AddsShares New b none numbers → total b < 2 ^ 64 → AreSizesFrom grouping was is numbers
sizes_alone grouping None is new none numbers b before after b_with empty b_adds b_fits =
    ([], b, refl, shares_in grouping is new b after b_with, sizes_are [] b numbers (compared [] b none none numbers empty (no_shares none) b_adds (lit< tt) b_fits))
sizes_alone grouping (Some was) is new none numbers b before after b_with empty b_adds b_fits = absurd before
