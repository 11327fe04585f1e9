use Rattle.std.proofs.Common.{sym, ap, ◌∙◌}
use Rattle.binfarce_figures.specs.machine.Runs.{last_of}
use Rattle.binfarce_figures.proofs.Runs.{last_is}
use Rattle.binfarce_figures.proofs.generic.last_byte.Goals as goal

pub returns-in-Some : goal.returns-in-Some
returns-in-Some c =
    let bytes = c.as_bytes.result.now in
    c.from.ensures ∙ c.in-Some.ensures.item.3.1 0 ∙ sym (last_is c.args.before 0 bytes c.in-Some.ensures.item.3.0) ∙ ap (last_of c.args.before) c.as_bytes.ensures.value
