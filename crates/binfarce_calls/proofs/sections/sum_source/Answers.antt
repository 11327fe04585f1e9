use Rattle.std.proofs.Common.{inl, inr, map, refl}
use Rattle.binfarce_rows.specs.Json.{style_of}
use Rattle.binfarce_io.specs.Faults.{no_memory_fault, read_fault}
use Rattle.binfarce_io.specs.declared.fault.Fault.TheVariants.{Section}
use Rattle.binfarce_limits.specs.Rows.{limit_view}
use Rattle.binfarce_calls.proofs.Refusals.{read_of_file, section_of_file, sections_summed, sections_unread, sections_unsummed}
use Rattle.binfarce_calls.proofs.SumSteps.{heading_broke, held_on, held_refused, rows_broke, rows_written}
use Rattle.binfarce_calls.proofs.sections.sum_source.Goals as goal

pub returns-in_err-tables : goal.returns-in_err-tables
returns-in_err-tables g c = λ file part may_fail is read native more.
    let style = style_of c.args.form in
    let out = c.args.out.now in
    let e = c.in_err-tables.field-0.0 in
    held_on g.W.Write.contents style c.args.first (map limit_view c.args.limits.now) may_fail file out out out (read_fault e) c.from_residual.result c.from_residual.ensures.1
    (held_refused g.W.Write.contents style c.args.first (map limit_view c.args.limits.now) may_fail file out out (read_fault e) (read_of_file e) (sections_unread (g.S.Source.may_fail c.args.source.now) may_fail file part e native read more (c.in_err-tables.ensures.reads part is)))

pub returns-in_err-sums : goal.returns-in_err-sums
returns-in_err-sums g c = λ file part may_fail is read native more.
    let style = style_of c.args.form in
    let out = c.args.out.now in
    let e = c.in_err-sums.field-0.0 in
    held_on g.W.Write.contents style c.args.first (map limit_view c.args.limits.now) may_fail file out out out (Section e) c.from_residual-in_err-sums.result c.from_residual-in_err-sums.ensures.1
    (held_refused g.W.Write.contents style c.args.first (map limit_view c.args.limits.now) may_fail file out out (Section e) (section_of_file e c.in_err-sums.ensures.unwritten) (sections_unsummed may_fail file part e native read (c.in_err-sums.ensures.sums part (c.in_ok-tables.ensures.reads part is))))

pub returns-in_err-rows : goal.returns-in_err-rows
returns-in_err-rows g c = λ file part may_fail is read native more.
    let style = style_of c.args.form in
    let out = c.args.out.now in
    held_on g.W.Write.contents style c.args.first (map limit_view c.args.limits.now) may_fail file out out out no_memory_fault c.from_residual-in_err-rows.result c.from_residual-in_err-rows.ensures.1
    (held_refused g.W.Write.contents style c.args.first (map limit_view c.args.limits.now) may_fail file out out no_memory_fault refl (inr (inl (inl refl))))

pub returns-in_err-sum_sections : goal.returns-in_err-sum_sections
returns-in_err-sum_sections g c = λ file part may_fail is read native more.
    let style = style_of c.args.form in
    let out = c.args.out.now in
    let new = c.sum_sections.new.out in
    let e = c.in_err-sum_sections.field-0.0 in
    let sums = c.in_ok-sums.sums in
    held_on g.W.Write.contents style c.args.first (map limit_view c.args.limits.now) may_fail file out new new (Section e) c.from_residual-in_err-sum_sections.result c.from_residual-in_err-sum_sections.ensures.1
    (rows_broke g.W.Write.contents style c.args.first (map limit_view c.args.limits.now) may_fail file out new sums e (sections_summed file part sums read (c.in_ok-sums.ensures.sums part (c.in_ok-tables.ensures.reads part is))) c.in_err-sum_sections.ensures.takes c.in_err-sum_sections.ensures.leaves)

pub returns-in_err-end : goal.returns-in_err-end
returns-in_err-end g c = λ file part may_fail is read native more.
    let style = style_of c.args.form in
    let out = c.args.out.now in
    let mid = c.sum_sections.new.out in
    let new = c.end.new.self in
    let e = c.in_err-end.field-0.0 in
    let sums = c.in_ok-sums.sums in
    held_on g.W.Write.contents style c.args.first (map limit_view c.args.limits.now) may_fail file out mid new e c.from_residual-in_err-end.result c.from_residual-in_err-end.ensures.1
    (heading_broke g.W.Write.contents style c.args.first (map limit_view c.args.limits.now) may_fail file out mid new sums e (sections_summed file part sums read (c.in_ok-sums.ensures.sums part (c.in_ok-tables.ensures.reads part is))) c.in_ok-sum_sections.ensures.takes c.end.ensures.kept c.in_err-end.ensures.fails.0)

pub returns : goal.returns
returns g c = λ file part may_fail is read native more.
    let style = style_of c.args.form in
    let out = c.args.out.now in
    let mid = c.sum_sections.new.out in
    let new = c.end.new.self in
    let sums = c.in_ok-sums.sums in
    rows_written g.W.Write.contents style c.args.first (map limit_view c.args.limits.now) may_fail file out mid new sums (record { length = c.file_length-length.result; rows = c.in_ok-rows.rows }) (sections_summed file part sums read (c.in_ok-sums.ensures.sums part (c.in_ok-tables.ensures.reads part is))) c.in_ok-sum_sections.ensures.takes c.end.ensures.kept
    c.in_ok-end.ensures.written.0 c.file_length-length.ensures c.in_ok-rows.ensures
