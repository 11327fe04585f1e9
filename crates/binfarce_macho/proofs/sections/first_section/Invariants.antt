use Rattle.std.proofs.Common.{length}
use Rattle.binfarce_macho.specs.Macho.{walk}
use Rattle.binfarce_macho.specs.MachoViews.{section_view}
use Rattle.binfarce_macho.specs.machine.RawMacho.{sections_left, IsWithin}
use Rattle.binfarce_bytes.proofs.Searches.{Reaches}
use Rattle.binfarce_macho.proofs.sections.first_section.Given as goal

-- the callback refused the sections before those that are left
abbrev pub invariant-loop-item : goal.invariant-loop-item
invariant-loop-item g l = IsWithin l.left × Reaches section_view (goal.F-post g l.callback) (walk l.file) (sections_left l.left)

abbrev pub decreases-loop-item : goal.decreases-loop-item
decreases-loop-item g l = length (sections_left l.left).items
