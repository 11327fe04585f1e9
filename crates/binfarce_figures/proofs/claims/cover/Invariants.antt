use Rattle.std.proofs.Common.{◌≡◌, ℕ, ◌+◌, ◌≤◌, ◌&&◌, ◌||◌, length, max, nat_le, nat_lt, reverse}
use Rattle.binfarce_figures.specs.machine.Spans.{Ascend, covers, gaps}
use Rattle.binfarce_figures.proofs.claims.cover.Given as goal

-- what the spans leave out up to the end is what the old ones do, but for what was added; and with those that were taken off they cover the same
abbrev pub invariant-loop-span : goal.invariant-loop-span
invariant-loop-span l = record {
  rises : Ascend l.from (reverse l.spans.items);
  on : l.place ≤ l.from;
  sum : l.added + gaps (reverse l.spans.items) l.from l.end ≡ gaps (reverse l.fn.spans.items) l.place l.end;
  same : (at : ℕ) → ((nat_le l.place at && nat_lt at l.end) || covers (reverse l.fn.spans.items) at) ≡ ((nat_le l.place at && nat_lt at (max l.end l.from)) || covers (reverse l.spans.items) at);
}

abbrev pub decreases-loop-span : goal.decreases-loop-span
decreases-loop-span l = length l.spans.items
