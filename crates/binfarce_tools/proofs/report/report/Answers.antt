use Rattle.std.proofs.Common.{Ok}
use Rattle.binfarce_tools.specs.Entries.{all_left, functions_left}
use Rattle.binfarce_tools.specs.ReportWords.{outcome_of}
use Rattle.binfarce_tools.specs.SectionAnswer.{IsReportOf, NeedsMemory, ReportFits, readers_answer}
use Rattle.binfarce_tools.specs.SelectedTexts.{IsReportOfSelected, SelectedReportFits}
use Rattle.binfarce_tools.proofs.Reports.{HoldsList, ends, fits, got, none_reported, none_taken, of_report, size_of_all, summed_or_not, takes}
use Rattle.binfarce_tools.proofs.SectionAnswers.{ends_of, got_of, memory_of, report_is, selected_of, takes_of}
use Rattle.binfarce_tools.proofs.report.report.Goals as goal

pub returns-in_err-sums-clause-outcome : goal.returns-in_err-sums-clause-outcome
returns-in_err-sums-clause-outcome g c =
    let needs = NeedsMemory c.args.file.now in
    let answer = readers_answer c.args.file.now c.args.section.now in
    let list = c.into_list-functions in
    ends_of needs ReportFits answer (outcome_of c.from_residual-in_err-sums.result)
    (none_reported (memory_of needs) (selected_of answer) (functions_left list.result.0) list.result.1 c.in_err-sums.field-0.0 c.from_residual-in_err-sums.result
    (got_of needs answer c.in_ok-readers_functions.field-0 (all_left list.result.0.all) list.result.1 list.ensures.functions list.ensures.size c.in_ok-readers_functions.ensures)
    c.in_err-sums.ensures c.from_residual-in_err-sums.ensures.1)

pub returns-in_err-sums-clause-takes : goal.returns-in_err-sums-clause-takes
returns-in_err-sums-clause-takes g c =
    let answer = readers_answer c.args.file.now c.args.section.now in
    takes_of IsReportOfSelected IsReportOf report_is answer _ _ (outcome_of c.from_residual-in_err-sums.result)
    (none_taken IsReportOfSelected (selected_of answer) (size_of_all (functions_left c.into_list-functions.result.0)) c.in_err-sums.field-0.0 _ c.from_residual-in_err-sums.result c.in_err-sums.ensures c.from_residual-in_err-sums.ensures.1)

pub returns-clause-outcome : goal.returns-clause-outcome
returns-clause-outcome g c =
    let needs = NeedsMemory c.args.file.now in
    let answer = readers_answer c.args.file.now c.args.section.now in
    let list = c.into_list-functions in
    let gets = got_of needs answer c.in_ok-readers_functions.field-0 (all_left list.result.0.all) list.result.1 list.ensures.functions list.ensures.size c.in_ok-readers_functions.ensures in
    let summed = summed_or_not (memory_of needs) (selected_of answer) (functions_left list.result.0) list.result.1 (Ok c.in_ok-sums.sums) gets c.in_ok-sums.ensures in
    ends_of needs ReportFits answer (outcome_of c.write_made.result)
    (ends (selected_of answer) summed.0 summed.1 SelectedReportFits (memory_of needs) c.report_text.result _ _ (outcome_of c.write_made.result) (fits summed.0 c.in_ok-sums.sums summed.2) c.write_made.ensures.takes)

pub returns-clause-takes : goal.returns-clause-takes
returns-clause-takes g c =
    let needs = NeedsMemory c.args.file.now in
    let answer = readers_answer c.args.file.now c.args.section.now in
    let list = c.into_list-functions in
    let gets = got_of needs answer c.in_ok-readers_functions.field-0 (all_left list.result.0.all) list.result.1 list.ensures.functions list.ensures.size c.in_ok-readers_functions.ensures in
    let held = got HoldsList (memory_of needs) (selected_of answer) (functions_left list.result.0, list.result.1) gets in
    takes_of IsReportOfSelected IsReportOf report_is answer _ _ (outcome_of c.write_made.result)
    (takes (selected_of answer) held.0 held.1 IsReportOfSelected c.report_text.result _ _ (outcome_of c.write_made.result)
    (of_report held.0 (functions_left list.result.0) list.result.1 c.in_ok-sums.sums c.report_text.result held.2 c.in_ok-sums.ensures c.report_text.ensures) c.write_made.ensures.takes)
