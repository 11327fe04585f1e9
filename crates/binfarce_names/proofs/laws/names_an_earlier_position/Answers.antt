use Rattle.binfarce_names.proofs.V0LawLemmas.{earlier_position}
use Rattle.binfarce_names.proofs.laws.names_an_earlier_position.Goals as goal

pub returns : goal.returns
returns c = earlier_position c.args.name.now
