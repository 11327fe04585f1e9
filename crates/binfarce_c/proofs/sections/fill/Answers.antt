use Rattle.std.proofs.Common.{ℕ, Some, None, Result, refl, ap, subst, ◌∙◌}
use Rattle.binfarce.specs.declared.ParseError.{ParseError}
use Rattle.binfarce.specs.Refusal.{refusal_of}
use Rattle.binfarce.specs.Walk.{YieldsNext}
use Rattle.binfarce_sections.specs.Views.{section_view, sections_left}
use Rattle.binfarce_c.proofs.Filled.{starts, goes, finished}
use Rattle.binfarce_c.proofs.sections.fill.Goals as goal

pub loop-section-init : goal.loop-section-init
loop-section-init c = starts (sections_left c.args.sections) (sections_left c.into_iter-section-iterator.result) c.args.out.now cc

pub loop-section-preserved : goal.loop-section-preserved
loop-section-preserved c =
    let step = subst (λ (item : Result _ ParseError). YieldsNext refusal_of section_view (sections_left c.loop-section.section-iterator) (Some item) (sections_left c.next.new.self)) c.in-Ok.is c.in-Some.ensures.steps in
    goes (sections_left c.args.sections) (sections_left c.loop-section.section-iterator) (sections_left c.next.new.self) c.args.out.now c.loop-section.out c.place-count.new.out c.loop-section.count c.place-count.result
    (section_view c.in-Ok.section) c.shown.result c.loop-section.invariant step c.shown.ensures c.place-count.ensures

pub returns : goal.returns
returns c =
    finished (sections_left c.args.sections) (sections_left c.loop-section.section-iterator) c.args.out.now c.loop-section.out c.loop-section.count None _ c.loop-section.invariant c.in-None.ensures.steps.0 refl

pub returns-in-Err : goal.returns-in-Err
returns-in-Err c =
    let step = subst (λ (item : Result _ ParseError). YieldsNext refusal_of section_view (sections_left c.loop-section.section-iterator) (Some item) (sections_left c.next.new.self)) c.in-Err.is c.in-Some.ensures.steps in
    finished (sections_left c.args.sections) (sections_left c.loop-section.section-iterator) c.args.out.now c.loop-section.out c.loop-section.count (Some (refusal_of c.in-Err.e)) c.ended.result c.loop-section.invariant step.0 (c.ended.ensures ∙ ap (λ (status : ℕ). record { status = status; count = c.loop-section.count }) c.status_of.ensures)
