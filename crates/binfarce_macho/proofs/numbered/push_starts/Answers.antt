use Rattle.std.proofs.Common.{◌∙◌}
use Rattle.binfarce_macho.proofs.AllWalks.{one_more}
use Rattle.binfarce_macho.proofs.numbered.push_starts.Goals as goal

pub loop-index-preserved : goal.loop-index-preserved
loop-index-preserved c = c.in_ok-push.ensures.items ∙ one_more c.args.body c.loop-index.index c.args.starts.now.items c.loop-index.starts.items c.loop-index.invariant
