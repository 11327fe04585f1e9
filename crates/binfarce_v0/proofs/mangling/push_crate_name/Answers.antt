use Rattle.std.proofs.Common.{None, inr, refl, sym, append-nil}
use Rattle.binfarce_v0.proofs.Validating.{no_mangling}
use Rattle.binfarce_v0.proofs.mangling.push_crate_name.Goals as goal

pub returns-in_default-clause-crate_found : goal.returns-in_default-clause-crate_found
returns-in_default-clause-crate_found c =
    (None, inr (no_mangling c.args.name.now c.in_default.ensures, refl), refl, sym (append-nil _))
