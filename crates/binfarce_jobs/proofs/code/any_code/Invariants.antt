use Rattle.std.proofs.Common.{◌≡◌}
use Rattle.std.specs.List.{list_any}
use Rattle.binfarce_sections.specs.Views.{sections_left}
use Rattle.binfarce_jobs.specs.Code.{is_code}
use Rattle.binfarce_jobs.proofs.code.any_code.Given as goal

-- all sections have code exactly if those that are left have
abbrev pub invariant-loop-section : goal.invariant-loop-section
invariant-loop-section l = list_any is_code (sections_left l.fn.sections).items ≡ list_any is_code (sections_left l.section-iterator).items
