use Rattle.std.proofs.Common.{◌<◌, sym, ap, refl, ◌∙◌, arith}
use Rattle.std.specs.Option.{option_map}
use Rattle.binfarce_macho.specs.Macho.{whole_headers}
use Rattle.binfarce_macho.specs.MachoViews.{section_view}
use Rattle.binfarce_macho.specs.machine.RawMacho.{section_count}
use Rattle.binfarce_macho.proofs.SectionsLeft.{next_is, passed, end_is, truncated_is}
use Rattle.binfarce_macho.proofs.Walks.{is_whole, is_truncated}
use Rattle.binfarce_macho.proofs.sections.section_left.Goals as goal

pub returns-in-Err : goal.returns-in-Err
returns-in-Err c =
    let file = c.args.bytes.now in
    let here = record c.args.segment { next = c.loop-index.index } in
    c.loop-index.invariant.1 ∙ truncated_is file here c.loop-index-test.true (is_truncated file c.args.segment.body c.loop-index.index c.in-Err.ensures)

pub returns-in-Ok-Some : goal.returns-in-Ok-Some
returns-in-Ok-Some c =
    let file = c.args.bytes.now in
    let index = c.loop-index.index in
    let here = record c.args.segment { next = index } in
    let room : index < whole_headers file c.args.segment.body = is_whole file c.args.segment.body index c.in-Ok-Some.ensures.0 in
    let lt : index < section_count file here = omega (arith, room, c.loop-index-test.true) in
    (omega (arith, lt), c.loop-index.invariant.1 ∙ next_is file here index (section_view c.in-Ok-Some.section) refl lt (sym c.in-Ok-Some.ensures.1 ∙ ap (option_map section_view) c.in-Ok-Some.field-0-is))

pub loop-index-preserved : goal.loop-index-preserved
loop-index-preserved c =
    let file = c.args.bytes.now in
    let index = c.loop-index.index in
    let here = record c.args.segment { next = index } in
    let room : index < whole_headers file c.args.segment.body = is_whole file c.args.segment.body index c.in-Ok-None.ensures.0 in
    let lt : index < section_count file here = omega (arith, room, c.loop-index-test.true) in
    (omega (arith, lt), c.loop-index.invariant.1 ∙ passed file here index refl lt (sym c.in-Ok-None.ensures.1 ∙ ap (option_map section_view) c.in-Ok-None.field-0-is))

pub returns : goal.returns
returns c =
    let here = record c.args.segment { next = c.loop-index.index } in
    c.loop-index.invariant.1 ∙ end_is c.args.bytes.now here (omega (arith, c.loop-index-test.false)) c.loop-index.invariant.0
