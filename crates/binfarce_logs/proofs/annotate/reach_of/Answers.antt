use Rattle.binfarce_logs.proofs.Among.{reach_step}
use Rattle.binfarce_logs.proofs.annotate.reach_of.Goals as goal

pub loop-file-preserved : goal.loop-file-preserved
loop-file-preserved c = reach_step c.args.names.now c.loop-file.file-index c.loop-file.reach c.reach-own.result c.max-reach.result c.file-item.result _ c.loop-file-test.true c.loop-file.invariant c.file-item.is c.reach-own.ensures c.max-reach.ensures
