use Rattle.std.proofs.Common.{◌≡◌, Ok, Some, map, refl}
use Rattle.std.proofs.lemmas.Iterator.Consumers.{YieldsList-from_first, map_from_collect}
use Rattle.binfarce.specs.SymbolViews.{section_function_view}
use Rattle.binfarce_tools.specs.Entries.{HoldsLeft, all_left}
use Rattle.binfarce_rows.specs.Json.{style_of}
use Rattle.binfarce_tools.specs.Answer.{MemoryIn, selected_answer}
use Rattle.binfarce_jobs.specs.Show.{Fits, IsTextOf}
use Rattle.binfarce_jobs.proofs.Making.{are_made, made, none_left, none_taken, unfailed, unmade, untaken}
use Rattle.binfarce_jobs.proofs.show.show_section.Goals as goal

pub returns-in_err-functions-clause-outcome : goal.returns-in_err-functions-clause-outcome
returns-in_err-functions-clause-outcome g c = λ which file name are.
    unmade HoldsLeft (Fits c.args.kind) (MemoryIn file (Some name)) (selected_answer which (Some name) file) c.in_err-functions.field-0.0 c.from_residual.result (c.in_err-functions.ensures.gets which file (Some name) are) c.from_residual.ensures.1

pub returns-in_err-functions-clause-takes : goal.returns-in_err-functions-clause-takes
returns-in_err-functions-clause-takes g c = λ which file name are.
    untaken c.in_err-functions.field-0.0 c.from_residual.result (IsTextOf c.args.kind c.args.path.now (style_of c.args.form)) (selected_answer which (Some name) file) _ c.in_err-functions.ensures.unwritten c.from_residual.ensures.1

pub returns-in_err-functions-clause-fails : goal.returns-in_err-functions-clause-fails
returns-in_err-functions-clause-fails g c = unfailed c.in_err-functions.field-0.0 c.from_residual.result _ c.in_err-functions.ensures.unwritten c.from_residual.ensures.1

pub returns-in_err-list-clause-outcome : goal.returns-in_err-list-clause-outcome
returns-in_err-list-clause-outcome g c = λ which file name are.
    none_left which file name (Fits c.args.kind) c.in_ok-functions.field-0 c.from_residual-in_err-list.result (c.in_ok-functions.ensures.gets which file (Some name) are) c.from_residual-in_err-list.ensures.1

pub returns-in_err-list-clause-takes : goal.returns-in_err-list-clause-takes
returns-in_err-list-clause-takes g c = λ which file name are.
    none_taken (IsTextOf c.args.kind c.args.path.now (style_of c.args.form)) (selected_answer which (Some name) file) _ c.from_residual-in_err-list.result c.from_residual-in_err-list.ensures.1

pub returns-clause-outcome : goal.returns-clause-outcome
returns-clause-outcome g c = λ which file name are.
    let functions = c.into_list-functions.result.0 in
    let list = c.in_ok-list.list in
    let collected : map section_function_view list.items ≡ all_left functions.all = map_from_collect {E = Unit {0}} (Ok list) c.in_ok-list.ensures.ran (YieldsList-from_first section_function_view all_left (all_left functions.all) refl) in
    c.show_tables.ensures.outcome which file (Some name) (are_made which file name list c.unwrap_or.result c.version_names.result
    (made which file name c.in_ok-functions.field-0 functions.all c.into_list-functions.result.1 list c.unwrap_or.result (c.in_ok-functions.ensures.gets which file (Some name) are) c.into_list-functions.ensures.functions c.into_list-functions.ensures.size collected c.unwrap_or.ensures)
    (λ seen is. c.version_names.ensures.file which file (Some name) seen are is))

pub returns-clause-takes : goal.returns-clause-takes
returns-clause-takes g c = λ which file name are.
    let functions = c.into_list-functions.result.0 in
    let list = c.in_ok-list.list in
    let collected : map section_function_view list.items ≡ all_left functions.all = map_from_collect {E = Unit {0}} (Ok list) c.in_ok-list.ensures.ran (YieldsList-from_first section_function_view all_left (all_left functions.all) refl) in
    c.show_tables.ensures.takes which file (Some name) (are_made which file name list c.unwrap_or.result c.version_names.result
    (made which file name c.in_ok-functions.field-0 functions.all c.into_list-functions.result.1 list c.unwrap_or.result (c.in_ok-functions.ensures.gets which file (Some name) are) c.into_list-functions.ensures.functions c.into_list-functions.ensures.size collected c.unwrap_or.ensures)
    (λ seen is. c.version_names.ensures.file which file (Some name) seen are is))

pub returns-clause-seen : goal.returns-clause-seen
returns-clause-seen g c = λ which file name selected are answer.
    let functions = c.into_list-functions.result.0 in
    let list = c.in_ok-list.list in
    let collected : map section_function_view list.items ≡ all_left functions.all = map_from_collect {E = Unit {0}} (Ok list) c.in_ok-list.ensures.ran (YieldsList-from_first section_function_view all_left (all_left functions.all) refl) in
    c.show_tables.ensures.seen which file (Some name) selected (are_made which file name list c.unwrap_or.result c.version_names.result
    (made which file name c.in_ok-functions.field-0 functions.all c.into_list-functions.result.1 list c.unwrap_or.result (c.in_ok-functions.ensures.gets which file (Some name) are) c.into_list-functions.ensures.functions c.into_list-functions.ensures.size collected c.unwrap_or.ensures)
    (λ seen is. c.version_names.ensures.file which file (Some name) seen are is)) answer
