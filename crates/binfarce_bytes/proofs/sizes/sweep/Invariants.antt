use Rattle.std.proofs.Common.{◌≡◌, ℕ, ◌+◌, ◌<◌, ◌≤◌, length, get_or, None}
use Rattle.binfarce_bytes.specs.Sizes.{least_above}
use Rattle.binfarce_bytes.proofs.Sweeping.{addresses, past}
use Rattle.binfarce_bytes.proofs.sizes.sweep.Given as goal

-- the places from here on have what is above them, and the first of these is remembered
abbrev pub invariant-loop-place : goal.invariant-loop-place
invariant-loop-place l = record {
  room : length l.above.items ≡ length l.rows;
  filled : (k : ℕ) → l.place ≤ k → k < length l.rows → get_or l.above.items k None ≡ least_above (addresses l.rows) (get_or l.rows k past).address;
  remembered : l.place < length l.rows → l.greater ≡ least_above (addresses l.rows) (get_or l.rows l.place past).address;
  nothing : l.place ≡ length l.rows → l.greater ≡ None;
  counted : l.visited + l.place ≡ length l.rows;
}
