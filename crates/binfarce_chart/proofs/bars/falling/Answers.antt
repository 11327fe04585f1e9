use Rattle.std.proofs.Common.{◌≡◌, ◌∙◌, ap, nat_cmp, reverse, rules, map, sym, subst, List}
use Rattle.std.proofs.lemmas.Fn.{always_returns_same}
use Rattle.std.proofs.lemmas.List.Sorted.{IsNonDecreasingBy-from_sort_by_key, IsPermutation-map, IsPermutation-trans}
use Rattle.std.specs.List.Sorted.{IsPermutation, IsStableByKey}
use Rattle.binfarce_chart.specs.declared.bars.Bar.{Bar}
use Rattle.binfarce_chart.specs.Chart.{Falls, KeepsOrder}
use Rattle.binfarce_chart.specs.Views.{bar_view}
use Rattle.binfarce_chart.proofs.Rows.{falls, keeps}
use Rattle.binfarce_chart.proofs.bars.falling.Goals as goal

pub returns-clause-same : goal.returns-clause-same
returns-clause-same c =
    let P : List Bar → Type 0 = λ xs. IsPermutation xs c.reverse.new.self.items in
    IsPermutation-map bar_view _ _ (IsPermutation-trans _ _ _ (subst P c.in_ok-sorted.ensures.items c.reverse.ensures.permutation) (IsPermutation-trans _ _ _ c.in_ok-sort_by_key.ensures.permutation c.reverse-2.ensures.permutation))

pub returns-clause-falls : goal.returns-clause-falls
returns-clause-falls c =
    let P : List Bar → Type 0 = λ xs. Falls (map bar_view xs) in
    subst P (sym c.reverse-2.ensures.items) (falls c.sort_by_key.new.self.items (IsNonDecreasingBy-from_sort_by_key (λ (b : Bar). b.size) _ c.in_ok-sort_by_key.ensures.sorted (λ a r q k. search rules)))

pub returns-clause-keeps : goal.returns-clause-keeps
returns-clause-keeps c =
    let turned : c.reverse.new.self.items ≡ reverse c.args.bars.now = c.reverse.ensures.items ∙ ap reverse c.in_ok-sorted.ensures.items in
    let P : List Bar → Type 0 = λ xs. IsStableByKey (λ (b : Bar). b.size) nat_cmp xs c.sort_by_key.new.self.items in
    let Q : List Bar → Type 0 = λ xs. KeepsOrder (map bar_view c.args.bars.now) (map bar_view xs) in
    let stable : P c.reverse.new.self.items = c.in_ok-sort_by_key.ensures.stable (λ (b : Bar). b.size) (always_returns_same _ (λ a r. r ≡ a.0.now.size) _ (λ a r q k. search rules)) in
    subst Q (sym c.reverse-2.ensures.items) (keeps c.args.bars.now c.sort_by_key.new.self.items (subst P turned stable))
