use Rattle.std.proofs.Common.{◌-◌, ◌≤◌, length}
use Rattle.binfarce_filtering.proofs.Names.{ReadsTo}
use Rattle.binfarce_filtering.proofs.filter.push_names.Given as goal

abbrev pub invariant-loop-at : goal.invariant-loop-at
invariant-loop-at l = record {
  within : l.at ≤ length l.run;
  reads : ReadsTo l.full l.run l.at l.fn.out.items l.out.items;
}

abbrev pub decreases-loop-at : goal.decreases-loop-at
decreases-loop-at l = length l.run - l.at
