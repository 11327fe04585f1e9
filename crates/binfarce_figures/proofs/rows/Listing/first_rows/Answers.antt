use Rattle.std.proofs.Common.{[], subst, sym}
use Rattle.std.specs.String.{string_bytes}
use Rattle.binfarce.specs.SymbolViews.{section_function_view}
use Rattle.binfarce_rows.specs.Json.{style_of}
use Rattle.binfarce_tools.specs.Tables.{section_names, version_names_of}
use Rattle.binfarce_figures.specs.Rows.{IsNameText}
use Rattle.binfarce_figures.proofs.RowListings.{IsRow, lines_more, rows_are}
use Rattle.binfarce_figures.proofs.rows.Listing.first_rows.Goals as goal

pub loop-function-init : goal.loop-function-init
loop-function-init c = ([], tt, c.new-text.ensures.bytes)

pub loop-function-preserved : goal.loop-function-preserved
loop-function-preserved c =
    let row = c.in_ok-push_row.ensures in
    lines_more (IsRow c.args.self.now) section_function_view _ c.loop-function.function-index _ row.0 (string_bytes c.loop-function.text) (string_bytes c.push_row.new.text) c.loop-function-test.true row.2
    (c.as_str.result.now, subst (IsNameText c.args.self.now.shown.now.naming _) (sym c.as_str.ensures.value) c.in_ok-put_name.ensures, row.1) c.loop-function.invariant

pub returns : goal.returns
returns c =
    let listing = c.args.self.now in
    rows_are listing.shown.now (style_of listing.form) (section_names listing.tables.now) (version_names_of listing.tables.now) listing.size section_function_view c.args.functions.now c.loop-function.function-index c.count_of-count.result (string_bytes c.loop-function.text)
    c.count_of-count.ensures c.loop-function-test.false c.loop-function.invariant
