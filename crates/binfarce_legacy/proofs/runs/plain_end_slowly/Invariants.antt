use Rattle.std.proofs.Common.{◌≡◌, ◌+◌, ◌-◌, ◌≤◌, length, drop}
use Rattle.std.specs.List.{prefix_len}
use Rattle.binfarce_legacy.specs.machine.Reading.{is_plain}
use Rattle.binfarce_legacy.proofs.runs.plain_end_slowly.Given as goal

abbrev pub invariant-loop-end : goal.invariant-loop-end
invariant-loop-end l = record {
  within : l.end ≤ length l.name;
  run : l.at + prefix_len is_plain (drop l.at l.name) ≡ l.end + prefix_len is_plain (drop l.end l.name);
}

abbrev pub decreases-loop-end : goal.decreases-loop-end
decreases-loop-end l = length l.name - l.end
