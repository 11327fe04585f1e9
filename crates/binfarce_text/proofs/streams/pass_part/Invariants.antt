use Rattle.std.proofs.Common.{length, ◌-◌, ◌≡◌, ◌≤◌, [], Ok, take}
use Rattle.binfarce_text.specs.machine.Passing.{Steps}
use Rattle.binfarce_text.proofs.streams.pass_part.Given as goal

-- the bytes before this place have passed, or wait
abbrev pub invariant-loop-at : goal.invariant-loop-at
invariant-loop-at g l = record {
  within : l.at ≤ length l.part;
  passed : Steps g.P.Pass.Holds g.P.Pass.MayBreakOff l.fn.pass l.pass (take l.at l.part) [] l.out.items (g.P.Pass.taken l.fn.output) (g.P.Pass.taken l.output) (Ok tt);
  ended : l.at ≡ length l.part → l.out.items ≡ [];
  unfailed : g.P.Pass.has_failed l.output ≡ g.P.Pass.has_failed l.fn.output;
}

abbrev pub decreases-loop-at : goal.decreases-loop-at
decreases-loop-at g l = length l.part - l.at
