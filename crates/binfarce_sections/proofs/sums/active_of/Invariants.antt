use Rattle.std.proofs.Common.{◌≡◌, ◌++◌, map}
use Rattle.binfarce_sections.specs.Sums.{active}
use Rattle.binfarce_sections.specs.Views.{section_view, sections_left}
use Rattle.binfarce_sections.proofs.sums.active_of.Given as goal

-- with those of what is left after them, the sections are the active ones of all; and what is left ends as all do
abbrev pub invariant-loop-section : goal.invariant-loop-section
invariant-loop-section l =
    (map section_view l.active.items ++ active (sections_left l.section-iterator).items ≡ active (sections_left l.fn.sections).items)
    × ((sections_left l.section-iterator).refusal ≡ (sections_left l.fn.sections).refusal)
