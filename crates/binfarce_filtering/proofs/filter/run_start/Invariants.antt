use Rattle.std.proofs.Common.{◌≡◌, ◌<◌, ◌≤◌, length, take, get_or}
use Rattle.binfarce_filtering.specs.machine.Scan.{IsOutside}
use Rattle.binfarce_filtering.proofs.filter.run_start.Given as goal

abbrev pub invariant-loop-at : goal.invariant-loop-at
invariant-loop-at l = record {
  before : l.at ≤ l.start;
  within : l.start ≤ l.end;
  outside : IsOutside (take l.at l.text) → IsOutside (take l.start l.text);
  run : l.start < l.end → get_or l.text l.start 0 ≡ 95;
  moved : l.end < length l.text → l.at < l.end → l.start < l.end;
}

abbrev pub decreases-loop-at : goal.decreases-loop-at
decreases-loop-at l = l.at
