use Rattle.std.proofs.Common.{◌≤◌, ℕ, length}
use Rattle.binfarce_addresses.specs.machine.Sweep.{here}
use Rattle.binfarce_addresses.specs.machine.Sweeping.{IsSweptTo}
use Rattle.binfarce_addresses.proofs.ranges.Sweep.close_before.Given as goal

abbrev pub invariant-loop-row : goal.invariant-loop-row
invariant-loop-row l = record {
  swept : (n : ℕ) → IsSweptTo l.rows l.fn.self n → IsSweptTo l.rows l.self n;
  behind : here l.fn.self.spans.items ≤ l.address → here l.self.spans.items ≤ l.address;
}

abbrev pub decreases-loop-row : goal.decreases-loop-row
decreases-loop-row l = length l.self.stack.items
