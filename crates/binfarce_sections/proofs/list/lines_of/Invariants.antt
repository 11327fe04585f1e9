use Rattle.std.proofs.Common.{◌≡◌, ◌++◌}
use Rattle.std.specs.String.{string_bytes}
use Rattle.binfarce_rows.specs.Json.{style_of}
use Rattle.binfarce_sections.specs.Lines.{section_lines}
use Rattle.binfarce_sections.specs.Views.{sections_left}
use Rattle.binfarce_sections.proofs.list.lines_of.Given as goal

-- with the lines of what is left after it, the text is the lines of all; and what is left ends as all do
abbrev pub invariant-loop-section : goal.invariant-loop-section
invariant-loop-section l =
    (string_bytes l.text ++ section_lines (style_of l.form) (sections_left l.section-iterator).items ≡ section_lines (style_of l.form) (sections_left l.fn.sections).items)
    × ((sections_left l.section-iterator).refusal ≡ (sections_left l.fn.sections).refusal)
