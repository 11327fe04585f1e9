use Rattle.std.proofs.Common.{ap, ◌∙◌}
use Rattle.binfarce_tools.specs.Report.{Share}
use Rattle.std.proofs.lemmas.Result.{on_ok_weaker}
use Rattle.binfarce_tools.proofs.report.add_function.Goals as goal

pub returns : goal.returns
returns c =
    let reported_is = c.in_ok-put_crate.ensures in
    let share : Share = record { name = c.as_str.result.now; size = c.args.function.size } in
    on_ok_weaker c.add_size.result (λ added. (share, (reported_is.0, reported_is.1, ap (λ text. record { name = text; size = c.args.function.size }) (c.as_str.ensures.value ∙ reported_is.2)), added)) (c.add_size.ensures (c.requires c.as_str.result.now))
