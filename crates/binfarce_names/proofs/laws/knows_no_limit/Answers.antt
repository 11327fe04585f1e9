use Rattle.binfarce_names.proofs.V0LawLemmas.{no_limit}
use Rattle.binfarce_names.proofs.laws.knows_no_limit.Goals as goal

pub returns : goal.returns
returns c = no_limit c.args.name.now
