use Rattle.std.proofs.Common.{◌-◌, ◌≤◌, length}
use Rattle.binfarce_filtering.proofs.Runs.{Reaches}
use Rattle.binfarce_filtering.proofs.filter.push_ended.Given as goal

abbrev pub invariant-loop-run : goal.invariant-loop-run
invariant-loop-run l = record {
  within : l.at ≤ length l.text;
  reaches : Reaches l.full l.text l.at l.fn.out.items l.out.items;
}

abbrev pub decreases-loop-run : goal.decreases-loop-run
decreases-loop-run l = length l.text - l.at
