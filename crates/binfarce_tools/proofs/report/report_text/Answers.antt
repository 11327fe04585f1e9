use Rattle.std.proofs.Common.{◌≡◌, ℕ, List, ◌++◌, String, sym, ap, ◌∙◌, append-nil}
use Rattle.std.specs.Global.{Global}
use Rattle.std.specs.String.{string_bytes}
use Rattle.binfarce_tools.specs.Report.{total_line}
use Rattle.binfarce_tools.specs.SelectedTexts.{last_line}
use Rattle.binfarce_tools.proofs.CrateLines.{entry_lines, is_report}
use Rattle.binfarce_tools.proofs.report.report_text.Goals as goal

pub returns : goal.returns
returns c = λ shares are.
    let sums = c.args.sums.now in
    let text = string_bytes c.loop-name.text in
    let lines : text ≡ entry_lines sums.crates.entries =
    sym (append-nil text) ∙ ap (λ (es : List (String Global × ℕ)). text ++ entry_lines es) (sym c.in-None.ensures.steps.0) ∙ c.loop-name.invariant in
    is_report shares sums are c.iter-name-items.ensures.ordered (last_line c.args.size) (string_bytes c.writeln.new.self) (string_bytes c.push_last_line.new.text)
    (c.in_ok-writeln.ensures.bytes ∙ ap (λ (xs : List ℕ). xs ++ total_line sums.total) lines) c.in_ok-push_last_line.ensures
