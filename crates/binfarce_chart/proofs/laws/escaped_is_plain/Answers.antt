use Rattle.binfarce_chart.proofs.Escapes.{all_plain}
use Rattle.binfarce_chart.proofs.laws.escaped_is_plain.Goals as goal

pub returns : goal.returns
returns c = all_plain c.args.name.now
