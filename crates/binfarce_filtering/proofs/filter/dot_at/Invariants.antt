use Rattle.std.proofs.Common.{◌≡◌, ◌+◌, ◌-◌, ◌≤◌, not, length, drop}
use Rattle.std.specs.List.{prefix_len}
use Rattle.binfarce_filtering.specs.Filter.{is_dot}
use Rattle.binfarce_filtering.proofs.filter.dot_at.Given as goal

abbrev pub invariant-loop-at : goal.invariant-loop-at
invariant-loop-at l = record {
  within : l.at ≤ length l.run;
  before : prefix_len (λ b. not (is_dot b)) l.run ≡ l.at + prefix_len (λ b. not (is_dot b)) (drop l.at l.run);
}

abbrev pub decreases-loop-at : goal.decreases-loop-at
decreases-loop-at l = length l.run - l.at
