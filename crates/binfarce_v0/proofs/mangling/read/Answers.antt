use Rattle.std.proofs.Common.{sym, ◌∙◌}
use Rattle.binfarce_v0.proofs.Manglings.{not_mangling, paths_read}
use Rattle.binfarce_v0.proofs.mangling.read.Goals as goal

pub returns-in_err-after : goal.returns-in_err-after
returns-in_err-after c =
    rw c.from_residual-in_err-after.ensures (not_mangling c.args.text.now c.in_ok-part.part.now c.in_ok-part.ensures.0 (sym c.paths_end.ensures ∙ c.in_err-after.was))

pub returns : goal.returns
returns c =
    let paths = paths_read c.in_ok-part.part.now c.in_ok-after.after (sym c.paths_end.ensures ∙ c.in_ok-after.was) in
    record {
      prefix = c.in_ok-part.ensures.0;
      begins = c.in_ok-part.ensures.1;
      ascii = c.in_ok-part.ensures.2;
      paths = paths;
    }
