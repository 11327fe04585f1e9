use Rattle.std.proofs.Common.{◌≡◌, ◌<◌, ◌^◌, ◌∙◌, List, Ok, ap, rules, subst, sym}
use Rattle.std.proofs.lemmas.Fn.{always_returns_same}
use Rattle.std.proofs.lemmas.Result.{IfOk-weaker}
use Rattle.std.specs.List.{sum_by}
use Rattle.binfarce_figures.specs.declared.figures.Figure.{Figure}
use Rattle.binfarce_figures.specs.Figures.{figure_rows}
use Rattle.binfarce_figures.specs.machine.Columns.{has_row, rank, row_text}
use Rattle.binfarce_figures.proofs.Ordered.{by_falling, reversed, reversed_is}
use Rattle.binfarce_figures.proofs.Ranked.{both_fit}
use Rattle.binfarce_figures.proofs.figures.Layout.rows.Goals as goal

pub first_rows-requires : goal.first_rows-requires
first_rows-requires c =
    let columns = c.args.self.now.columns in
    let rows = c.sort_by_key.new.self.items in
    let (first, second, are) = c.requires in
    let seen = c.in_ok-rows.ensures first second are in
    let P : List Figure → Type 0 = λ fs. (sum_by (λ (f : Figure). f.sum) fs < 2 ^ 64) × (sum_by (λ (f : Figure). f.other) fs < 2 ^ 64) in
    subst P (sym c.deref.ensures.value) (both_fit first second c.args.numbers.now (λ x. has_row columns x.1.0 x.1.1) seen.0 c.in_ok-rows.rows.items rows are seen.1 seen.2 c.sort_by_key.ensures.permutation)

pub returns : goal.returns
returns c =
    let layout = c.args.self.now in
    let sorted = c.in_ok-sort_by_key.ensures in
    let by_rank = by_falling {E = Unit {0}} _ _ (λ (f : Figure). rank layout.columns f.sum f.other) c.in_ok-rows.rows.items c.sort_by_key.new.self.items (Ok tt)
    (always_returns_same _ (λ a r. r ≡ reversed (rank layout.columns a.0.now.sum a.0.now.other)) _ (λ a r q k. (reversed_is r (rank layout.columns a.0.now.sum a.0.now.other) (search rules), search rules))) sorted.permutation sorted.sorted sorted.stable in
    IfOk-weaker c.first_rows.result _ _ (λ t is first second are.
    let seen = c.in_ok-rows.ensures first second are in
    (seen.0, seen.1, (c.sort_by_key.new.self.items, (c.in_ok-rows.rows.items, seen.2, by_rank), is ∙ ap (λ (fs : List Figure). figure_rows (row_text layout) layout.figures.now.first fs) c.deref.ensures.value)))
    c.first_rows.ensures
