use Rattle.std.proofs.Common.{get_or, map, [], None, sym, ◌∙◌}
use Rattle.std.proofs.lemmas.List.{get_or-map}
use Rattle.binfarce_bytes.specs.Sizes.{addresses_of}
use Rattle.binfarce_bytes.specs.SymbolViews.{section_function_view}
use Rattle.binfarce_bytes.specs.RowViews.{rows_view}
use Rattle.binfarce_bytes.proofs.Above.{above_less}
use Rattle.binfarce_bytes.proofs.Sweeping.{past}
use Rattle.binfarce_macho.specs.MachoSelection.{extent_view}
use Rattle.binfarce_macho.specs.machine.RawMacho.{function_in}
use Rattle.binfarce_macho.proofs.EachSection.{above_at, one_more_listed, function_is}
use Rattle.binfarce_macho.proofs.functions.push_kept.Goals as goal

pub size_in-requires-clause-above : goal.size_in-requires-clause-above
size_in-requires-clause-above c =
    let members = addresses_of (rows_view c.args.rows.now) in
    let row = get_or c.args.rows.now c.loop-at.at past in
    λ n e. above_less members row.address n (sym (above_at c.args.rows.now members c.args.above.now c.loop-at.at past c.loop-at-test.true c.requires.above) ∙ e)

pub loop-at-preserved : goal.loop-at-preserved
loop-at-preserved c =
    let section = extent_view c.args.section in
    let number = c.args.number in
    let rows = rows_view c.args.rows.now in
    let names = map (λ t. t.now) c.args.names.now in
    let row = get_or c.args.rows.now c.loop-at.at past in
    rw c.in_ok-push.ensures.items
    (one_more_listed section_function_view (function_in section number names rows) (map section_function_view c.args.functions.now.items) c.args.rows.now c.loop-at.at past c.loop-at.functions.items _
    c.loop-at-test.true c.loop-at.invariant
    (function_is section number names rows row _ _ _ c.from.ensures (sym (get_or-map (λ t. t.now) c.args.names.now row.index (record { ref_ptr = (0, 0); now = [] }) [] (c.requires.inside c.loop-at.at past c.loop-at-test.true).0))
    (get_or c.args.above.now c.loop-at.at None) (above_at c.args.rows.now (addresses_of rows) c.args.above.now c.loop-at.at past c.loop-at-test.true c.requires.above) c.size_in.ensures))
