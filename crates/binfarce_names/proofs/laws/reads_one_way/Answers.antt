use Rattle.binfarce_names.proofs.V0LawLemmas.{reads_one}
use Rattle.binfarce_names.proofs.laws.reads_one_way.Goals as goal

pub returns : goal.returns
returns c = reads_one c.args.name.now
