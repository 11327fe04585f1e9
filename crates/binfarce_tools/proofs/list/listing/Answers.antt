use Rattle.std.proofs.Common.{List, ℕ, ◌++◌, ap, ◌∙◌}
use Rattle.std.specs.String.{string_bytes}
use Rattle.binfarce.specs.SymbolViews.{section_function_view}
use Rattle.binfarce_tools.specs.SelectedTexts.{IsLineOfSelected, last_line}
use Rattle.binfarce_tools.specs.Tables.{section_names}
use Rattle.binfarce_tools.specs.Entries.{all_left}
use Rattle.binfarce_tools.proofs.Lines.{one_line, whole}
use Rattle.binfarce_tools.proofs.list.listing.Goals as goal

pub loop-function-preserved : goal.loop-function-preserved
loop-function-preserved c =
    let line = c.in_ok-push_line.ensures in
    one_line (IsLineOfSelected (section_names c.args.tables.now) c.args.selected.size) (all_left c.args.selected.functions) (all_left c.loop-function.function-iterator) (all_left c.next.new.self) (section_function_view c.in-Some.function) line.0 (string_bytes c.loop-function.text) (string_bytes c.push_line.new.text)
    c.in-Some.ensures.steps line.1 line.2 c.loop-function.invariant

pub returns : goal.returns
returns c =
    let size = c.args.selected.size in
    let lines = whole (IsLineOfSelected (section_names c.args.tables.now) size) (all_left c.args.selected.functions) (all_left c.loop-function.function-iterator) (string_bytes c.loop-function.text) c.in-None.ensures.steps.0 c.loop-function.invariant in
    (lines.0, lines.1, c.in_ok-push_last_line.ensures ∙ ap (λ (text : List ℕ). text ++ last_line size) lines.2)
