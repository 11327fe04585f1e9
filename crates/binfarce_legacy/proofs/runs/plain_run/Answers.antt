use Rattle.std.proofs.Common.{◌∙◌}
use Rattle.binfarce_legacy.proofs.LaneLemmas.{plain_run}
use Rattle.binfarce_legacy.proofs.runs.plain_run.Goals as goal

pub returns : goal.returns
returns c = c.len_before.ensures ∙ plain_run c.args.bytes.now
