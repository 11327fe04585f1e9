use Rattle.std.proofs.Common.{◌≤◌, length, take}
use Rattle.std.specs.Io.KnownBytes.{Appends}
use Rattle.binfarce_filtering.proofs.stream.TextFilterPass.write.Given as goal

-- what was written are the bytes before `at`
abbrev pub invariant-loop : goal.invariant-loop
invariant-loop g l = record {
  within : l.at ≤ length l.bytes;
  taken : Appends (g.W.Write.contents l.fn.output) (g.W.Write.contents l.output) (take l.at l.bytes);
}
