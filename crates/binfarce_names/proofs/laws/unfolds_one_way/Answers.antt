use Rattle.binfarce_names.proofs.V0LawLemmas.{unfolds_one}
use Rattle.binfarce_names.proofs.laws.unfolds_one_way.Goals as goal

pub returns : goal.returns
returns c = unfolds_one c.args.name.now
