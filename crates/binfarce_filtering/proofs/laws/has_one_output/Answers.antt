use Rattle.binfarce_filtering.specs.Filter.{IsFiltered}
use Rattle.binfarce_filtering.proofs.Outputs.{has_output, one_output, prefix_written}
use Rattle.binfarce_filtering.proofs.laws.has_one_output.Goals as goal

pub returns : goal.returns
returns c =
    let full = c.args.full in
    let text = c.args.text.now in
    record { some = has_output full text; one = one_output full text; prefix = prefix_written (IsFiltered full) (has_output full) text (one_output full text) }
