use Rattle.std.proofs.Common.{◌∙◌, Err, ap, subst}
use Rattle.binfarce_rows.specs.Json.{style_of}
use Rattle.binfarce_tools.specs.ReportWords.{outcome_of}
use Rattle.binfarce_tools.specs.Writing.{Outcome, Takes, written}
use Rattle.binfarce_figures.specs.Changes.{AreChangesBy, answer_for, both}
use Rattle.binfarce_figures.specs.Claimed.{Claimed}
use Rattle.binfarce_figures.specs.Claims.{sum_of_sizes}
use Rattle.binfarce_figures.proofs.Compared.{compared, growth_by}
use Rattle.binfarce_figures.proofs.Figured.{passed_on}
use Rattle.binfarce_figures.proofs.diff.diff.Goals as goal

pub returns-in_err-write_made-clause-takes : goal.returns-in_err-write_made-clause-takes
returns-in_err-write_made-clause-takes g c = λ before after was is.
    let shown = c.args.figures.now in
    let style = style_of c.args.form in
    let e = c.in_err-write_made.field-0.0 in
    let took : Outcome → Type 0 = λ o. Takes (AreChangesBy shown style) (both (answer_for before) (answer_for after)) (g.S.Sink.taken c.args.out.now) (g.S.Sink.taken c.write_made.new.out) o in
    subst took (passed_on outcome_of c.from_residual.result e c.from_residual.ensures.1)
    (compared before after c.args.old.now c.args.new.now was is shown style c.text_of.result _ _ (outcome_of (Err e)) c.text_of.ensures c.in_err-write_made.ensures.takes)

pub returns-clause-takes : goal.returns-clause-takes
returns-clause-takes g c = λ before after was is.
    compared before after c.args.old.now c.args.new.now was is c.args.figures.now (style_of c.args.form) c.text_of.result _ _ written c.text_of.ensures c.in_ok-write_made.ensures.takes

pub returns-clause-growth : goal.returns-clause-growth
returns-clause-growth g c = λ before after listed was is pair.
    let sum = λ (v : Claimed). sum_of_sizes v.entries in
    growth_by before after c.args.old.now c.args.new.now was is _ listed pair (c.old.invariant.total_is ∙ ap sum c.old.view_is) (c.new.invariant.total_is ∙ ap sum c.new.view_is)
