use Rattle.std.proofs.Common.{◌∙◌, None, Ok, ap, refl, sym}
use Rattle.std.proofs.lemmas.Iterator.{length_from_collect}
use Rattle.std.proofs.lemmas.Iterator.Consumers.{YieldsList-from_first}
use Rattle.binfarce.specs.SymbolViews.{section_function_view}
use Rattle.binfarce_tools.specs.Answer.{selected_answer}
use Rattle.binfarce_tools.specs.Entries.{all_left}
use Rattle.binfarce_jobs.specs.Hints.{count_of}
use Rattle.binfarce_jobs.proofs.Making.{counted}
use Rattle.binfarce_jobs.proofs.hint.count_of_all.Goals as goal

pub returns : goal.returns
returns g c = λ file is.
    let selected = c.in_ok-selected.selected in
    let all = all_left selected.functions in
    let are = c.in_ok-tables.ensures.reads file is in
    c.len.ensures ∙ (length_from_collect {E = Unit {0}} (Ok c.in_ok-list.list) (count_of (selected_answer c.args.which None file)) c.in_ok-list.ensures.ran (YieldsList-from_first section_function_view all_left all refl)
    (counted c.args.which file None selected (c.in_ok-selected.ensures.gets c.args.which file None are.0)) ∙ sym (ap count_of are.1))
