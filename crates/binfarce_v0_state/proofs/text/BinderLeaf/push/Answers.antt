use Rattle.std.proofs.Common.{◌<◌, arith}
use Rattle.std.proofs.lemmas.Grind.{common_steps}
use Rattle.binfarce_v0_state.proofs.Texts.{more_announced_step}
use Rattle.binfarce_v0_state.proofs.text.BinderLeaf.push.Goals as goal

pub loop-i-preserved : goal.loop-i-preserved
loop-i-preserved c =
    let within : c.loop-i.i < c.args.self.count = omega arith in
    let step = more_announced_step c.args.self.binder_depth c.loop-i.i c.args.self.count within in grind (arith, common_steps)
