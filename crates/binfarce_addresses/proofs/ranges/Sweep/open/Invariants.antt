use Rattle.std.proofs.Common.{◌≡◌, ℕ, ◌<◌, ◌≤◌, length, take}
use Rattle.binfarce_addresses.specs.machine.Sweep.{end_at}
use Rattle.binfarce_addresses.proofs.ranges.Sweep.open.Given as goal

-- those that were dropped end no later than the row
abbrev pub invariant-loop-open : goal.invariant-loop-open
invariant-loop-open l = record {
  spans : l.self.spans.items ≡ l.fn.self.spans.items;
  within : length l.self.stack.items ≤ length l.fn.self.stack.items;
  are : l.self.stack.items ≡ take (length l.self.stack.items) l.fn.self.stack.items;
  outlived : (m : ℕ) → length l.self.stack.items ≤ m → m < length l.fn.self.stack.items → end_at l.rows l.fn.self.stack.items m ≤ l.last;
}

abbrev pub decreases-loop-open : goal.decreases-loop-open
decreases-loop-open l = length l.self.stack.items
