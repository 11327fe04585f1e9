use Rattle.std.proofs.Common.{◌≡◌, ◌++◌}
use Rattle.std.specs.String.{string_bytes}
use Rattle.binfarce_tools.proofs.CrateLines.{entry_lines}
use Rattle.binfarce_tools.proofs.report.report_text.Given as goal

-- with the lines of what is left after it, the text is the lines of all
abbrev pub invariant-loop-name : goal.invariant-loop-name
invariant-loop-name l = string_bytes l.text ++ entry_lines l.name-iterator ≡ entry_lines l.sums.crates.entries
