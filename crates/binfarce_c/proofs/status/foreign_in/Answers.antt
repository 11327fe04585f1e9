use Rattle.std.proofs.Common.{◌∙◌}
use Rattle.binfarce_c.proofs.Foreign.{by_first}
use Rattle.binfarce_c.proofs.status.foreign_in.Goals as goal

pub returns : goal.returns
returns c = c.named_by.ensures ∙ by_first c.min-count.result c.args.file.now c.min-count.ensures
