use Rattle.std.proofs.Common.{◌≡◌, ◌-◌, ◌≤◌, false, true, length, take}
use Rattle.binfarce_filtering.specs.machine.Scan.{is_plain}
use Rattle.binfarce_filtering.proofs.filter.mark_at.Given as goal

abbrev pub invariant-loop-at : goal.invariant-loop-at
invariant-loop-at l = record {
  within : l.at ≤ length l.text;
  plain : is_plain false (take l.at l.text) ≡ true;
}

abbrev pub decreases-loop-at : goal.decreases-loop-at
decreases-loop-at l = length l.text - l.at
