use Rattle.std.proofs.Common.{◌≤◌, ◌<◌, length}
use Rattle.binfarce_addresses.specs.machine.Sweep.{here, row_at}
use Rattle.binfarce_addresses.specs.machine.Sweeping.{IsSweptTo}
use Rattle.binfarce_addresses.proofs.ranges.spans_of.Given as goal

abbrev pub invariant-loop-row : goal.invariant-loop-row
invariant-loop-row l = record {
  swept : IsSweptTo l.rows l.sweep l.row;
  behind : l.row < length l.rows → here l.sweep.spans.items ≤ (row_at l.rows l.row).address;
}
