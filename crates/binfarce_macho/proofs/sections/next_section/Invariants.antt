use Rattle.std.proofs.Common.{◌≡◌}
use Rattle.binfarce_macho.specs.machine.RawMacho.{IsWithin, sections_left}
use Rattle.binfarce_macho.proofs.sections.next_section.Given as goal

-- what is left is all that was
abbrev pub invariant-loop-left : goal.invariant-loop-left
invariant-loop-left l = IsWithin l.left × (sections_left l.initial.left ≡ sections_left l.left)

abbrev pub decreases-loop-left : goal.decreases-loop-left
decreases-loop-left l = l.left.commands.left
