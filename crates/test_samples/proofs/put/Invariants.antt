use Rattle.std.proofs.Common.{◌≡◌, ◌+◌, ◌≤◌, drop, length}
use Rattle.test_samples.specs.Patched.{patched_at}
use Rattle.test_samples.proofs.put.Given as goal

-- what the bytes that are left make of the file is what all make of the first one
abbrev pub invariant-loop-i : goal.invariant-loop-i
invariant-loop-i l = record {
  is : patched_at (drop l.i l.bytes) (l.offset + l.i) l.file.items ≡ patched_at l.bytes l.offset l.initial.file.items;
  within : l.i ≤ length l.bytes;
}
