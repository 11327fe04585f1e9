use Rattle.binfarce_sections.specs.Views.{sections_left}
use Rattle.binfarce_c.proofs.Filled.{HasFilled}
use Rattle.binfarce_c.proofs.sections.fill.Given as goal

-- the sections before those that are left were put
abbrev pub invariant-loop-section : goal.invariant-loop-section
invariant-loop-section l = HasFilled (sections_left l.fn.sections) (sections_left l.section-iterator) l.fn.out l.out l.count
