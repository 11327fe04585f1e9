use Rattle.std.proofs.Common.{◌∙◌}
use Rattle.binfarce_words.proofs.Units.{before}
use Rattle.binfarce_words.proofs.takes.before_unit.Goals as goal

pub returns : goal.returns
returns c = before c.args.unit.now c.args.value.now c.strip_suffix.result c.strip_suffix.ensures.cases
