use Rattle.std.proofs.Common.{◌≡◌}
use Rattle.binfarce.specs.Walk.{first}
use Rattle.binfarce_sections.specs.Named.{is_named}
use Rattle.binfarce_sections.specs.Views.{sections_left}
use Rattle.binfarce_sections.proofs.bytes.first_of.Given as goal

-- what is found in all sections is what is found in those that are left
abbrev pub invariant-loop-section : goal.invariant-loop-section
invariant-loop-section l = first (is_named l.name) (sections_left l.fn.sections) ≡ first (is_named l.name) (sections_left l.section-iterator)
