use Rattle.std.proofs.Common.{◌≡◌, ◌-◌, [], ◌∙◌, List, ℕ, arith, ap, drop, length, subst, take, Ok}
use Rattle.std.proofs.Math.Seq.{take-length}
use Rattle.std.proofs.lemmas.Bool.{eq-eqb}
use Rattle.binfarce_text.specs.machine.Passing.{Passes, Steps}
use Rattle.binfarce_text.proofs.Passing.{part_broken, part_passed, step_more, taken_all, taken_more}
use Rattle.binfarce_text.proofs.streams.pass_part.Goals as goal

pub returns-in_err-pass_step-clause-passes : goal.returns-in_err-pass_step-clause-passes
returns-in_err-pass_step-clause-passes g c =
    let part = c.args.part.now in
    let n = c.min-end.result - c.loop-at.at in
    subst (λ (x : List ℕ). Passes g.P.Pass.Holds g.P.Pass.MayBreakOff c.args.pass.now c.pass_step.new.pass x (g.P.Pass.taken c.args.output.now) (g.P.Pass.taken c.pass_step.new.output) c.from_residual.result) (taken_all part c.loop-at.at n)
    (part_broken g.P.Pass.Holds g.P.Pass.MayBreakOff c.args.pass.now c.loop-at.pass c.pass_step.new.pass (take c.loop-at.at part) (take n (drop c.loop-at.at part)) (drop n (drop c.loop-at.at part)) c.loop-at.out.items c.pass_step.new.out.items _ _ _ _
    c.from_residual.result c.loop-at.invariant.passed c.in_err-pass_step.ensures.steps c.from_residual.ensures.1)

pub loop-at-preserved : goal.loop-at-preserved
loop-at-preserved g c =
    let part = c.args.part.now in
    record {
      within = omega (arith, c.min-end.ensures);
      passed = subst (λ (x : List ℕ). Steps g.P.Pass.Holds g.P.Pass.MayBreakOff c.args.pass.now c.pass_step.new.pass x [] c.pass_step.new.out.items (g.P.Pass.taken c.args.output.now) (g.P.Pass.taken c.pass_step.new.output) (Ok tt))
          (taken_more part c.loop-at.at c.min-end.result (omega (arith, c.min-end.ensures, c.loop-at-test.true, c.loop-at.invariant.within)))
          (step_more g.P.Pass.Holds g.P.Pass.MayBreakOff c.args.pass.now c.loop-at.pass c.pass_step.new.pass (take c.loop-at.at part) (take (c.min-end.result - c.loop-at.at) (drop c.loop-at.at part)) c.loop-at.out.items c.pass_step.new.out.items _ _ _
          c.loop-at.invariant.passed c.in_ok-pass_step.ensures.steps);
      ended = λ all. c.in_ok-pass_step.ensures.ends (eq-eqb c.min-end.result (length part) all);
      unfailed = c.in_ok-pass_step.ensures.fails ∙ c.loop-at.invariant.unfailed;
    }

pub returns-clause-passes : goal.returns-clause-passes
returns-clause-passes g c =
    let part = c.args.part.now in
    let all : c.loop-at.at ≡ length part = omega (arith, c.loop-at-test.false, c.loop-at.invariant.within) in
    subst (λ (x : List ℕ). Passes g.P.Pass.Holds g.P.Pass.MayBreakOff c.args.pass.now c.loop-at.pass x (g.P.Pass.taken c.args.output.now) (g.P.Pass.taken c.loop-at.output) (Ok tt))
    (ap (λ (n : ℕ). take n part) all ∙ take-length part)
    (part_passed g.P.Pass.Holds g.P.Pass.MayBreakOff c.args.pass.now c.loop-at.pass (take c.loop-at.at part) c.loop-at.out.items _ _ c.loop-at.invariant.passed (c.loop-at.invariant.ended all))
