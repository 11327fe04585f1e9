use Rattle.std.proofs.Common.{◌+◌, ◌-◌, arith}
use Rattle.binfarce_legacy.specs.machine.Reading.{is_plain}
use Rattle.binfarce_legacy.proofs.RunLemmas.{run_goes_on, ends_here, ends_later, end_within, end_stops}
use Rattle.binfarce_legacy.proofs.runs.plain_end.Goals as goal

pub returns-then-run-lt-STRIDE-clause-value : goal.returns-then-run-lt-STRIDE-clause-value
returns-then-run-lt-STRIDE-clause-value c =
    ends_here is_plain c.args.name.now c.args.wide.now c.args.at c.loop-end.end c.plain_run-run.result _ c.min.result
    c.requires.wide c.requires.at c.loop-end.invariant.run (omega arith) c.plain_run-run.ensures c.if-run-lt-STRIDE.true (omega (arith, c.min.ensures))

pub returns-then-run-lt-STRIDE-clause-within : goal.returns-then-run-lt-STRIDE-clause-within
returns-then-run-lt-STRIDE-clause-within c =
    end_within is_plain c.args.name.now c.args.at c.min.result c.requires.at
    (ends_here is_plain c.args.name.now c.args.wide.now c.args.at c.loop-end.end c.plain_run-run.result _ c.min.result
    c.requires.wide c.requires.at c.loop-end.invariant.run (omega arith) c.plain_run-run.ensures c.if-run-lt-STRIDE.true (omega (arith, c.min.ensures)))

pub returns-then-run-lt-STRIDE-clause-special : goal.returns-then-run-lt-STRIDE-clause-special
returns-then-run-lt-STRIDE-clause-special c =
    end_stops is_plain c.args.name.now c.args.at c.min.result
    (ends_here is_plain c.args.name.now c.args.wide.now c.args.at c.loop-end.end c.plain_run-run.result _ c.min.result
    c.requires.wide c.requires.at c.loop-end.invariant.run (omega arith) c.plain_run-run.ensures c.if-run-lt-STRIDE.true (omega (arith, c.min.ensures)))

pub loop-end-preserved : goal.loop-end-preserved
loop-end-preserved c = record {
  within = omega arith;
  run =
      let at = c.loop-end.end in
      let more = run_goes_on is_plain c.args.wide.now at 16 (at + 16 - at) (omega arith) (omega (arith, c.plain_run-run.ensures, c.if-run-lt-STRIDE.false)) in
      omega (arith, more, c.loop-end.invariant.run);
}

pub returns-clause-value : goal.returns-clause-value
returns-clause-value c =
    ends_later is_plain c.args.name.now c.args.wide.now c.args.at c.loop-end.end c.min-2.result c.plain_end_slowly.result
    c.requires.wide c.requires.at c.loop-end.invariant.run (omega (arith, c.min-2.ensures)) c.plain_end_slowly.ensures

pub returns-clause-within : goal.returns-clause-within
returns-clause-within c =
    end_within is_plain c.args.name.now c.args.at c.plain_end_slowly.result c.requires.at
    (ends_later is_plain c.args.name.now c.args.wide.now c.args.at c.loop-end.end c.min-2.result c.plain_end_slowly.result
    c.requires.wide c.requires.at c.loop-end.invariant.run (omega (arith, c.min-2.ensures)) c.plain_end_slowly.ensures)

pub returns-clause-special : goal.returns-clause-special
returns-clause-special c =
    end_stops is_plain c.args.name.now c.args.at c.plain_end_slowly.result
    (ends_later is_plain c.args.name.now c.args.wide.now c.args.at c.loop-end.end c.min-2.result c.plain_end_slowly.result
    c.requires.wide c.requires.at c.loop-end.invariant.run (omega (arith, c.min-2.ensures)) c.plain_end_slowly.ensures)
