use Rattle.std.proofs.Common.{◌+◌, ◌≤◌, length, arith}
use Rattle.std.proofs.lemmas.Grind.{common_steps}
use Rattle.binfarce_sections.specs.Views.{section_view}
use Rattle.binfarce_sections.proofs.Sure.{of_part, converted_only}
use Rattle.binfarce_tables.proofs.Sure.{one}
use Rattle.binfarce_sections.proofs.tables.read_bytes.Goals as goal

pub returns-in_err-part-clause-only : goal.returns-in_err-part-clause-only
returns-in_err-part-clause-only g c = λ file known long.
    let s = section_view c.args.section in
    let inside : s.offset + s.size ≤ length file = grind (arith, common_steps, long, c.in_ok-end.ensures.value, c.checked_add.ensures, c.if-end-len.false) in
    converted_only _ (one (λ P. of_part P file s c.if-not-section.false inside) c.in_err-part.ensures.only) c.from_residual-in_err-part.ensures

pub returns-clause-only : goal.returns-clause-only
returns-clause-only g c = λ file known long.
    let s = section_view c.args.section in
    let inside : s.offset + s.size ≤ length file = grind (arith, common_steps, long, c.in_ok-end.ensures.value, c.checked_add.ensures, c.if-end-len.false) in
    one (λ P. of_part P file s c.if-not-section.false inside) c.in_ok-part.ensures.only
