use Rattle.std.proofs.Common.{◌≡◌, ◌≤◌}
use Rattle.binfarce_macho.specs.machine.RawMacho.{commands_left}
use Rattle.binfarce_macho.proofs.Walks.{sections_left}
use Rattle.binfarce_macho.proofs.sections.next_segment.Given as goal

-- no command so far was a segment's
abbrev pub invariant-loop-item : goal.invariant-loop-item
invariant-loop-item l =
    (l.commands.bytes.now ≡ l.initial.commands.bytes.now)
    × (l.commands.left ≤ l.initial.commands.left)
    × (sections_left l.initial.commands.bytes.now (commands_left l.initial.commands) ≡ sections_left l.initial.commands.bytes.now (commands_left l.commands))

abbrev pub decreases-loop-item : goal.decreases-loop-item
decreases-loop-item l = l.commands.left
