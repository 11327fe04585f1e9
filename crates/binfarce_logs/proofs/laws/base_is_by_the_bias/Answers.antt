use Rattle.binfarce_logs.specs.Maps.{end_in}
use Rattle.binfarce_logs.proofs.Bias.{by_bias}
use Rattle.binfarce_logs.proofs.laws.base_is_by_the_bias.Goals as goal

pub returns : goal.returns
returns c = by_bias c.args.bias c.args.maps.now (end_in c.args.maps.now c.args.path.now) c.args.loaded.address c.args.loaded.code
