use Rattle.std.proofs.Common.{ℕ, List, ◌-◌}
use Rattle.binfarce_pe.specs.PeParts.{table_view}
use Rattle.binfarce_pe.specs.PeSelection.{rules_of, sections_view}
use Rattle.binfarce_pe.proofs.Rows.{AreBefore}
use Rattle.binfarce_pe.proofs.EachSection.{NoneKept}
use Rattle.binfarce_pe.proofs.functions.has_functions.Given as goal

-- none of the rows before the next is kept
abbrev pub invariant-loop-next : goal.invariant-loop-next
invariant-loop-next l =
    let table = table_view l.symbols in
    (before : List ℕ) × AreBefore table l.next before × NoneKept table (rules_of (sections_view l.sections)) before

abbrev pub decreases-loop-next : goal.decreases-loop-next
decreases-loop-next l = l.row_count - l.next
