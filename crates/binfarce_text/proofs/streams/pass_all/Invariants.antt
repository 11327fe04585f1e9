use Rattle.std.proofs.Common.{◌≡◌, ◌<◌, length}
use Rattle.binfarce_text.specs.Streams.{Writes}
use Rattle.binfarce_text.proofs.streams.pass_all.Given as goal

-- what was read so far has passed
abbrev pub invariant-loop : goal.invariant-loop
invariant-loop g l = record {
  room : 0 < length l.chunk;
  passed : Writes (g.P.Pass.Holds l.fn.pass l.pass) (g.R.Read.remaining l.fn.input) (g.R.Read.remaining l.input) (g.P.Pass.taken l.fn.output) (g.P.Pass.taken l.output);
  unfailed : g.P.Pass.has_failed l.output ≡ g.P.Pass.has_failed l.fn.output;
}
