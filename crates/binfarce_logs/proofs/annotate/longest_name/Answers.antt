use Rattle.binfarce_logs.proofs.Among.{longest_step}
use Rattle.binfarce_logs.proofs.annotate.longest_name.Goals as goal

pub loop-file-preserved : goal.loop-file-preserved
loop-file-preserved c = longest_step c.args.names.now c.args.before.now c.loop-file.file-index c.loop-file.longest c.name_before-own.result c.max-longest.result c.file-item.result _ c.loop-file-test.true c.loop-file.invariant c.file-item.is c.name_before-own.ensures c.max-longest.ensures
