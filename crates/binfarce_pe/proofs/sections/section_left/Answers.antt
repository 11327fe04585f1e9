use Rattle.std.proofs.Common.{◌≡◌, ◌+◌, ◌-◌, ◌*◌, ◌<◌, ◌≤◌, length, Some, None, sym, ap, ◌∙◌, arith}
use Rattle.std.specs.Option.{option_map}
use Rattle.std.proofs.lemmas.Nat.{div_below}
use Rattle.binfarce_bytes.specs.Refusal.{unexpected_eof}
use Rattle.binfarce_pe.specs.PeParts.{section_in, whole_in}
use Rattle.binfarce_pe.specs.PeViews.{section_view}
use Rattle.binfarce_pe.specs.machine.RawPe.{header_count}
use Rattle.binfarce_pe.specs.PeParts.{headers_view}
use Rattle.binfarce_pe.proofs.SectionsLeft.{next_is, passed, end_is}
use Rattle.binfarce_pe.proofs.Walks.{is_readable, is_truncated, done_is, truncated_is, outside_is, header_is}
use Rattle.binfarce_pe.proofs.sections.section_left.Goals as goal

pub returns-then-table : goal.returns-then-table
returns-then-table c =
    let table = headers_view c.args.table in
    let past : length table.bytes ≤ table.offset = omega (arith, c.if-table.true) in
    let none : header_count table ≤ c.args.from = omega (arith, div_below (length table.bytes + 16 - table.offset) 40 1 (omega arith) (omega (arith, past))) in
    end_is table c.args.from (Some unexpected_eof) none (outside_is table past)

pub returns-in-Err : goal.returns-in-Err
returns-in-Err c =
    let table = headers_view c.args.table in
    let index = c.loop-index.index in
    let start = c.args.table.offset + index * 40 in
    let at : start ≡ table.offset + index * 40 = omega arith in
    let truncated : whole_in table ≤ index = is_truncated (length table.bytes) table.offset start index at c.in-Err.ensures in
    c.loop-index.invariant.1 ∙ end_is table index (Some unexpected_eof) (omega (arith, truncated)) (truncated_is table (omega (arith, truncated, c.loop-index-test.true)))

pub returns-in-Ok-Some : goal.returns-in-Ok-Some
returns-in-Ok-Some c =
    let table = headers_view c.args.table in
    let index = c.loop-index.index in
    let start = c.args.table.offset + index * 40 in
    let at : start ≡ table.offset + index * 40 = omega arith in
    let room : index < whole_in table = is_readable (length table.bytes) table.offset start index at c.in-Ok-Some.ensures.0 in
    let lt : index < header_count table = omega (arith, room, c.loop-index-test.true) in
    let is : section_in table index ≡ Some (section_view c.in-Ok-Some.section) = header_is table start index (Some (section_view c.in-Ok-Some.section)) at (sym (ap (option_map section_view) c.in-Ok-Some.field-0-is) ∙ c.in-Ok-Some.ensures.1) in
    (omega (arith, lt), c.loop-index.invariant.1 ∙ next_is table index (section_view c.in-Ok-Some.section) lt is)

pub loop-index-preserved : goal.loop-index-preserved
loop-index-preserved c =
    let table = headers_view c.args.table in
    let index = c.loop-index.index in
    let start = c.args.table.offset + index * 40 in
    let at : start ≡ table.offset + index * 40 = omega arith in
    let room : index < whole_in table = is_readable (length table.bytes) table.offset start index at c.in-Ok-None.ensures.0 in
    let lt : index < header_count table = omega (arith, room, c.loop-index-test.true) in
    let none : section_in table index ≡ None = header_is table start index None at (sym (ap (option_map section_view) c.in-Ok-None.field-0-is) ∙ c.in-Ok-None.ensures.1) in
    (omega (arith, lt), c.loop-index.invariant.1 ∙ passed table index lt none)

pub returns : goal.returns
returns c =
    let table = headers_view c.args.table in
    let index = c.loop-index.index in
    c.loop-index.invariant.1 ∙ end_is table index None (omega (arith, c.loop-index-test.false)) (done_is table (omega (arith, c.if-table.false)) (omega (arith, c.loop-index-test.false, c.loop-index.invariant.0)))
