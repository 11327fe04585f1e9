use Rattle.std.proofs.Common.{◌-◌, ◌&&◌, Bool, get_or, ◌∙◌, ap, arith}
use Rattle.binfarce_filtering.specs.machine.Scan.{is_mark}
use Rattle.binfarce_filtering.proofs.Scans.{after_here, other_test}
use Rattle.binfarce_filtering.proofs.filter.is_mark_at.Goals as goal

pub returns-else-text-at-eq95-clause-goes_on : goal.returns-else-text-at-eq95-clause-goes_on
returns-else-text-at-eq95-clause-goes_on c = λ _.
    ap (λ (t : Bool). t && is_mark (get_or c.args.text.now c.args.at 0))
    (after_here c.args.text.now c.args.at (omega (arith, c.if-at-eq0.false)) (omega arith) ∙ other_test (get_or c.args.text.now (c.args.at - 1) 0) c.if-text-at-eq95.false)
