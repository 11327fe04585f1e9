use Rattle.std.proofs.Common.{Ok}
use Rattle.binfarce_tools.specs.Answer.{selected_answer, MemoryIn}
use Rattle.binfarce_tools.specs.Entries.{all_left, functions_left}
use Rattle.binfarce_tools.specs.ReportWords.{outcome_of}
use Rattle.binfarce_tools.specs.SelectedTexts.{IsReportOfSelected, SelectedReportFits}
use Rattle.binfarce_tools.proofs.Reports.{HoldsList, ends, fits, got, list_of, none_reported, none_taken, of_report, size_of_all, summed_or_not, takes}
use Rattle.binfarce_tools.proofs.report.report_tables.Goals as goal

pub returns-in_err-sums-clause-outcome : goal.returns-in_err-sums-clause-outcome
returns-in_err-sums-clause-outcome g c = λ which file section are.
    let list = c.into_list-functions in
    none_reported (MemoryIn file section) (selected_answer which section file) (functions_left list.result.0) list.result.1 c.in_err-sums.field-0.0 c.from_residual-in_err-sums.result
    (list_of (MemoryIn file section) (selected_answer which section file) c.in_ok-functions.field-0 (all_left list.result.0.all) list.result.1 list.ensures.functions list.ensures.size (c.in_ok-functions.ensures.gets which file section are))
    c.in_err-sums.ensures c.from_residual-in_err-sums.ensures.1

pub returns-in_err-sums-clause-takes : goal.returns-in_err-sums-clause-takes
returns-in_err-sums-clause-takes g c = λ which file section are.
    none_taken IsReportOfSelected (selected_answer which section file) (size_of_all (functions_left c.into_list-functions.result.0)) c.in_err-sums.field-0.0 _ c.from_residual-in_err-sums.result c.in_err-sums.ensures c.from_residual-in_err-sums.ensures.1

pub returns-clause-outcome : goal.returns-clause-outcome
returns-clause-outcome g c = λ which file section are.
    let list = c.into_list-functions in
    let gets = list_of (MemoryIn file section) (selected_answer which section file) c.in_ok-functions.field-0 (all_left list.result.0.all) list.result.1 list.ensures.functions list.ensures.size (c.in_ok-functions.ensures.gets which file section are) in
    let summed = summed_or_not (MemoryIn file section) (selected_answer which section file) (functions_left list.result.0) list.result.1 (Ok c.in_ok-sums.sums) gets c.in_ok-sums.ensures in
    ends (selected_answer which section file) summed.0 summed.1 SelectedReportFits (MemoryIn file section) c.report_text.result _ _ (outcome_of c.write_made.result) (fits summed.0 c.in_ok-sums.sums summed.2) c.write_made.ensures.takes

pub returns-clause-takes : goal.returns-clause-takes
returns-clause-takes g c = λ which file section are.
    let list = c.into_list-functions in
    let gets = list_of (MemoryIn file section) (selected_answer which section file) c.in_ok-functions.field-0 (all_left list.result.0.all) list.result.1 list.ensures.functions list.ensures.size (c.in_ok-functions.ensures.gets which file section are) in
    let held = got HoldsList (MemoryIn file section) (selected_answer which section file) (functions_left list.result.0, list.result.1) gets in
    takes (selected_answer which section file) held.0 held.1 IsReportOfSelected c.report_text.result _ _ (outcome_of c.write_made.result)
    (of_report held.0 (functions_left list.result.0) list.result.1 c.in_ok-sums.sums c.report_text.result held.2 c.in_ok-sums.ensures c.report_text.ensures) c.write_made.ensures.takes
