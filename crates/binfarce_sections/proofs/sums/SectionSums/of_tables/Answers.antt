use Rattle.binfarce_tables.proofs.Readings.{err_is}
use Rattle.std.proofs.Common.{length}
use Rattle.binfarce.specs.Format.{format_of}
use Rattle.binfarce_sections.specs.Results.{SumsUp}
use Rattle.binfarce_sections.specs.Section.{sections_of}
use Rattle.binfarce_sections.specs.Views.{sections_left}
use Rattle.binfarce_sections.proofs.SumAnswers.{never_writes, sums_opened, sums_unopened}
use Rattle.binfarce_sections.proofs.TablesRead.{length_is}
use Rattle.binfarce_sections.proofs.sums.SectionSums.of_tables.Goals as goal

pub returns-in_err-sections-clause-sums : goal.returns-in_err-sections-clause-sums
returns-in_err-sections-clause-sums c = λ file are.
    let walk = sections_of (format_of file) file in
    let e = c.in_err-sections.field-0.0 in
    err_is (λ r. SumsUp (length file) walk r) c.from_residual.result e c.from_residual.ensures (sums_unopened (length file) walk e (c.in_err-sections.ensures.opens file are))

pub returns-clause-sums : goal.returns-clause-sums
returns-clause-sums c = λ file are.
    let sections = c.in_ok-sections.sections in
    let opened = c.in_ok-sections.ensures.opens file are in
    sums_opened (length file) c.file_length.result (sections_of (format_of file) file) sections c.sums_left.result opened (length_is file c.args.tables.now c.file_length.result sections are c.file_length.ensures opened) c.sums_left.ensures

pub returns-clause-unwritten : goal.returns-clause-unwritten
returns-clause-unwritten c = never_writes c.file_length.result (sections_left c.in_ok-sections.sections) c.sums_left.result c.sums_left.ensures
