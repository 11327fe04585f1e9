use Rattle.std.proofs.Common.{◌≡◌, None, get_or, map, ◌∙◌}
use Rattle.binfarce_bytes.specs.Sizes.{addresses_of, least_above}
use Rattle.binfarce_bytes.specs.SymbolViews.{section_function_view}
use Rattle.binfarce_bytes.specs.RowViews.{rows_view}
use Rattle.binfarce_bytes.proofs.Sweeping.{past}
use Rattle.binfarce_pe.specs.PeSelection.{rules_of, sections_view}
use Rattle.binfarce_pe.specs.machine.RawPe.{function_in, names_view}
use Rattle.binfarce_pe.proofs.Listing.{above_at, above_greater, nothing_listed, one_more_listed, nameless, function_is}
use Rattle.binfarce_pe.proofs.functions.push_rows.Goals as goal

pub size_at-requires : goal.size_at-requires
size_at-requires c =
    let members = addresses_of (rows_view c.args.rows.now) in
    let row = get_or c.args.rows.now c.loop-at.at past in
    above_greater members row.address _ (above_at c.args.rows.now members c.args.above.now c.loop-at.at past c.loop-at-test.true c.requires.above)

pub loop-at-preserved-in-None : goal.loop-at-preserved-in-None
loop-at-preserved-in-None c =
    let rules = rules_of (sections_view c.args.sections) in
    let addresses = addresses_of (rows_view c.args.rows.now) in
    let row = get_or c.args.rows.now c.loop-at.at past in
    nothing_listed section_function_view (function_in rules c.args.index (names_view c.args.names.now) addresses) (map section_function_view c.args.functions.now.items) c.args.rows.now c.loop-at.at past c.loop-at.functions.items
    c.loop-at-test.true c.loop-at.invariant
    (nameless rules c.args.index c.args.names.now addresses row _ (c.requires.named c.loop-at.at past c.loop-at-test.true) c.in-None.is)

pub loop-at-preserved : goal.loop-at-preserved
loop-at-preserved c =
    let rules = rules_of (sections_view c.args.sections) in
    let addresses = addresses_of (rows_view c.args.rows.now) in
    let row = get_or c.args.rows.now c.loop-at.at past in
    let above : get_or c.args.above.now c.loop-at.at None ≡ least_above addresses row.address =
    above_at c.args.rows.now addresses c.args.above.now c.loop-at.at past c.loop-at-test.true c.requires.above in
    let size : c.size_at.result ≡ (rules.section c.args.index).size addresses row.address =
    c.size_at.ensures c.args.index addresses (c.from-bound.ensures ∙ c.bound_of.ensures) above in
    rw c.in_ok-push.ensures.items
    (one_more_listed section_function_view (function_in rules c.args.index (names_view c.args.names.now) addresses) (map section_function_view c.args.functions.now.items) c.args.rows.now c.loop-at.at past c.loop-at.functions.items _
    c.loop-at-test.true c.loop-at.invariant
    (function_is rules c.args.index c.args.names.now addresses row _ c.in-Some.name _ _ (c.requires.named c.loop-at.at past c.loop-at-test.true) c.in-Some.is c.address_of.ensures size))
