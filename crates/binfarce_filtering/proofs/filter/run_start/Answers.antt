use Rattle.std.proofs.Common.{◌<◌, sym, arith}
use Rattle.binfarce_filtering.proofs.Scans.{outside_after, outside_on}
use Rattle.binfarce_filtering.proofs.filter.run_start.Goals as goal

pub loop-at-preserved : goal.loop-at-preserved
loop-at-preserved c =
    let text = c.args.text.now in
    let at = c.loop-at.at in
    let some : 0 < at = omega (arith, c.loop-at-test.true) in
    record {
      before = omega arith;
      within = c.loop-at.invariant.within;
      outside = λ before. c.loop-at.invariant.outside (outside_on text at some (omega arith) c.if-text-at-eq95.false before);
      run = c.loop-at.invariant.run;
      moved = grind arith;
    }

pub returns-else-is_run_byte-clause-outside : goal.returns-else-is_run_byte-clause-outside
returns-else-is_run_byte-clause-outside c =
    c.loop-at.invariant.outside (outside_after c.args.text.now c.loop-at.at (omega (arith, c.loop-at-test.true)) (omega arith) (sym c.if-is_run_byte.ensures))
