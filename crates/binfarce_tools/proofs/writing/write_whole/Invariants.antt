use Rattle.std.proofs.Common.{◌≡◌, ◌≤◌, ◌-◌, length, take}
use Rattle.std.specs.Io.KnownBytes.{Appends}
use Rattle.binfarce_tools.proofs.writing.write_whole.Given as goal

-- what was taken are the bytes before `at`, and no write has failed
abbrev pub invariant-loop-at : goal.invariant-loop-at
invariant-loop-at g l = record {
  within : l.at ≤ length l.bytes;
  taken : Appends (g.S.Sink.taken l.fn.out) (g.S.Sink.taken l.out) (take l.at l.bytes);
  kept : g.S.Sink.has_failed l.out ≡ g.S.Sink.has_failed l.fn.out;
}

abbrev pub decreases-loop-at : goal.decreases-loop-at
decreases-loop-at g l = length l.bytes - l.at
