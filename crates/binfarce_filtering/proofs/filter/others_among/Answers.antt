use Rattle.std.proofs.Common.{◌≡◌, Bool, true, false, not, ◌||◌, eqb, refl, ◌∙◌}
use Rattle.binfarce_text.specs.machine.Strides.{is_other}
use Rattle.binfarce_text.proofs.Lanes.{same_run}
use Rattle.binfarce_filtering.specs.machine.Scan as scan
use Rattle.binfarce_filtering.proofs.filter.others_among.Goals as goal

thrice : (r : Bool) → not (r || (r || r)) ≡ not r
thrice true = refl
thrice false = refl

pub returns : goal.returns
returns c = c.len_before.ensures ∙ same_run (is_other 95 95 95) scan.is_other c.args.bytes.now (λ x. thrice (eqb x 95))
