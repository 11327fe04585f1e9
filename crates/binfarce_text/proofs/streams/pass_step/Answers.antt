use Rattle.std.proofs.Common.{◌∙◌}
use Rattle.binfarce_text.proofs.Passing.{step_broken}
use Rattle.binfarce_text.proofs.streams.pass_step.Goals as goal

pub returns-in_err-write-clause-steps : goal.returns-in_err-write-clause-steps
returns-in_err-write-clause-steps g c =
    let more = c.in_ok-take.ensures.makes in
    step_broken g.P.Pass.Holds g.P.Pass.MayBreakOff c.take.ensures.breaks_off c.args.pass.now c.take.new.self c.args.bytes.now c.args.out.now.items c.take.new.out.items more.0 c.as_slice.result.now _ _ _
    c.from_residual-in_err-write.result more.1 (c.as_slice.ensures.value ∙ more.2) c.in_err-write.ensures.writes c.from_residual-in_err-write.ensures.1
