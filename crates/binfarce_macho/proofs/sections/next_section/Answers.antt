use Rattle.std.proofs.Common.{◌≡◌, ℕ, List, sym, ap, subst, ◌∙◌, None, Some}
use Rattle.binfarce_bytes.specs.Refusal.{unexpected_eof}
use Rattle.binfarce_bytes.specs.Walk.{ended}
use Rattle.binfarce_macho.specs.machine.RawMacho.{commands_left, segment_from, damage_refusal}
use Rattle.binfarce_macho.proofs.Walks.{sections_left, no_left}
use Rattle.binfarce_macho.proofs.SectionsLeft.{goes_on, refuses, nothing_left}
use Rattle.binfarce_macho.proofs.sections.next_section.Goals as goal

pub returns-in-Err-clause-steps : goal.returns-in-Err-clause-steps
returns-in-Err-clause-steps c =
    let it = c.loop-left.left.commands in
    (c.loop-left.invariant.1 ∙ refuses it.bytes.now c.loop-left.left.segment (commands_left it) unexpected_eof c.in-Err.ensures, nothing_left it.bytes.now it.offset)

pub returns-in-None-clause-steps : goal.returns-in-None-clause-steps
returns-in-None-clause-steps c =
    let it = c.loop-left.left.commands in
    let segment = c.loop-left.left.segment in
    let after = c.next_segment.new.commands in
    let none : segment_from it.bytes.now segment ≡ ended None = rw c.in-Ok-None.field-0-is at c.in-Ok-None.ensures in
    let none_after : segment_from after.bytes.now segment ≡ ended None = subst (λ (f : List ℕ). segment_from f segment ≡ ended None) (sym c.in-None.ensures.bytes) none in (
      c.loop-left.invariant.1 ∙ goes_on it.bytes.now segment (commands_left it) none ∙ c.in-None.ensures.steps.0,
      goes_on after.bytes.now segment (commands_left after) none_after ∙ ap (sections_left after.bytes.now) c.in-None.ensures.steps.1 ∙ no_left after.bytes.now None,
    )

pub returns-in-Some-Err-clause-steps : goal.returns-in-Some-Err-clause-steps
returns-in-Some-Err-clause-steps c =
    let it = c.loop-left.left.commands in
    let segment = c.loop-left.left.segment in
    let after = c.next_segment.new.commands in
    let none : segment_from it.bytes.now segment ≡ ended None = rw c.in-Ok-None.field-0-is at c.in-Ok-None.ensures in
    let bad : sections_left it.bytes.now (commands_left it) ≡ ended (Some (damage_refusal c.in-Some-Err.damage)) = rw c.in-Some-Err.field-0-is at c.in-Some-Err.ensures.steps in
    (c.loop-left.invariant.1 ∙ goes_on it.bytes.now segment (commands_left it) none ∙ bad, nothing_left after.bytes.now after.offset)
