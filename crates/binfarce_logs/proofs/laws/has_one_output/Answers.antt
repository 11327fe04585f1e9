use Rattle.binfarce_logs.specs.Annotated.{files_of}
use Rattle.binfarce_logs.proofs.Outputs.{has_output, one_output}
use Rattle.binfarce_logs.proofs.laws.has_one_output.Goals as goal

pub returns : goal.returns
returns c =
    let files = files_of c.args.modules.now in
    record { some = has_output files c.args.is_bare c.args.text.now; one = one_output files c.args.is_bare c.args.text.now }
