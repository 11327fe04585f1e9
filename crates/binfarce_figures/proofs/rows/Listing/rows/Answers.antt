use Rattle.std.proofs.Common.{◌∙◌, map, sym}
use Rattle.std.proofs.lemmas.Result.{IfOk-weaker}
use Rattle.binfarce.specs.SymbolViews.{section_function_view}
use Rattle.binfarce_figures.proofs.RowListings.{placed, placed_by_name}
use Rattle.binfarce_figures.proofs.rows.Listing.rows.Goals as goal

pub returns-then-is_by_name : goal.returns-then-is_by_name
returns-then-is_by_name c = λ entries is.
    let shown = c.args.self.now.shown.now in
    IfOk-weaker c.rows_by_name.result _ _
    (λ t made. let (named, ordered, sorted, are, by, all, rows) = made in (sorted, placed_by_name shown.naming shown.order entries (map section_function_view c.args.functions.now) named ordered sorted (sym c.is_by_name.ensures ∙ c.if-is_by_name.true) is are by all, rows)) c.rows_by_name.ensures

pub returns-else-is_by_name : goal.returns-else-is_by_name
returns-else-is_by_name c = λ entries is.
    let shown = c.args.self.now.shown.now in
    let sorted = map section_function_view c.args.functions.now in
    IfOk-weaker c.first_rows.result _ _ (λ t rows. (sorted, placed shown.naming shown.order entries sorted (sym c.is_by_name.ensures ∙ c.if-is_by_name.false) is, rows)) c.first_rows.ensures
