use Rattle.std.proofs.Common.{◌≡◌, ◌-◌, ◌≤◌, length, drop}
use Rattle.std.specs.List.{list_any}
use Rattle.binfarce_legacy.specs.machine.Reading.{is_mark}
use Rattle.binfarce_legacy.proofs.runs.has_mark.Given as goal

abbrev pub invariant-loop-at : goal.invariant-loop-at
invariant-loop-at l = record {
  within : l.at ≤ length l.name;
  left : list_any is_mark l.name ≡ list_any is_mark (drop l.at l.name);
}

abbrev pub decreases-loop-at : goal.decreases-loop-at
decreases-loop-at l = length l.name - l.at
