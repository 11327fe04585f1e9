use Rattle.std.proofs.Common.{◌∙◌, Err, ap, subst}
use Rattle.binfarce_tools.specs.Answer.{selected_answer}
use Rattle.binfarce_rows.specs.Json.{style_of}
use Rattle.binfarce_tools.specs.ReportWords.{outcome_of}
use Rattle.binfarce_tools.specs.Writing.{Outcome, Takes, written}
use Rattle.binfarce_figures.specs.Claimed.{Claimed}
use Rattle.binfarce_figures.specs.Claims.{sum_of_sizes}
use Rattle.binfarce_figures.specs.Figures.{AreFiguresBy, IsTextOfShares}
use Rattle.binfarce_figures.proofs.Figured.{figured, none_taken, passed_on}
use Rattle.binfarce_figures.proofs.Got.{claims_for}
use Rattle.binfarce_figures.proofs.Summed.{sums_in}
use Rattle.binfarce_figures.proofs.sums.sum_by.Goals as goal

pub returns-in_err-numbers-clause-takes : goal.returns-in_err-numbers-clause-takes
returns-in_err-numbers-clause-takes g c = λ which file section got.
    none_taken (AreFiguresBy c.args.figures.now (style_of c.args.form)) (selected_answer which section file) _ c.from_residual.result c.from_residual.ensures.1

pub returns-in_err-write_made-clause-takes : goal.returns-in_err-write_made-clause-takes
returns-in_err-write_made-clause-takes g c = λ which file section got.
    let shown = c.args.figures.now in
    let style = style_of c.args.form in
    let e = c.in_err-write_made.field-0.0 in
    let took : Outcome → Type 0 = λ o. Takes (AreFiguresBy shown style) (selected_answer which section file) (g.S.Sink.taken c.args.out.now) (g.S.Sink.taken c.write_made.new.out) o in
    subst took (passed_on outcome_of c.from_residual-in_err-write_made.result e c.from_residual-in_err-write_made.ensures.1)
    (figured shown.grouping (IsTextOfShares shown style) which file section c.args.claims.now c.text_of.result _ _ (outcome_of (Err e)) got c.text_of.ensures c.in_err-write_made.ensures.takes)

pub returns-clause-takes : goal.returns-clause-takes
returns-clause-takes g c = λ which file section got.
    let shown = c.args.figures.now in
    figured shown.grouping (IsTextOfShares shown (style_of c.args.form)) which file section c.args.claims.now c.text_of.result _ _ written got c.text_of.ensures c.in_ok-write_made.ensures.takes

pub returns-clause-sums : goal.returns-clause-sums
returns-clause-sums g c = λ which file section selected got answer.
    sums_in c.args.figures.now.grouping selected c.args.claims.now c.in_ok-numbers.numbers c.claims.inside.total c.sum_at.result (claims_for which file section c.args.claims.now selected got answer)
    (c.claims.invariant.total_is ∙ ap (λ (v : Claimed). sum_of_sizes v.entries) c.claims.view_is) c.in_ok-numbers.ensures c.sum_at.ensures
