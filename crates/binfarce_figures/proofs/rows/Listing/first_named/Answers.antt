use Rattle.std.proofs.Common.{[], take}
use Rattle.std.proofs.lemmas.List.Elements.{All-get_or, All-take}
use Rattle.std.specs.String.{string_bytes}
use Rattle.binfarce_rows.specs.Json.{style_of}
use Rattle.binfarce_tools.specs.Tables.{section_names, version_names_of}
use Rattle.binfarce_figures.specs.machine.Listings.{HasName, entry_of}
use Rattle.binfarce_figures.proofs.RowListings.{IsRow, lines_more, rows_are}
use Rattle.binfarce_figures.proofs.rows.Listing.first_named.Goals as goal

pub loop-row-init : goal.loop-row-init
loop-row-init c = ([], tt, c.new-text.ensures.bytes)

pub loop-row-preserved : goal.loop-row-preserved
loop-row-preserved c =
    let Has = HasName c.args.self.now.shown.now.naming in
    let count = c.count_of-count.result in
    let rows = c.args.rows.now in
    let row = c.in_ok-push_row.ensures in
    let lt = c.loop-row-test.true in
    let has = All-get_or Has (take count rows) c.loop-row.row-index _ lt (All-take Has count rows c.requires) in
    lines_more (IsRow c.args.self.now) entry_of (take count rows) c.loop-row.row-index _ row.0 (string_bytes c.loop-row.text) (string_bytes c.push_row.new.text) lt row.2 (_, has, row.1) c.loop-row.invariant

pub returns : goal.returns
returns c =
    let listing = c.args.self.now in
    rows_are listing.shown.now (style_of listing.form) (section_names listing.tables.now) (version_names_of listing.tables.now) listing.size entry_of c.args.rows.now c.loop-row.row-index c.count_of-count.result (string_bytes c.loop-row.text)
    c.count_of-count.ensures c.loop-row-test.false c.loop-row.invariant
