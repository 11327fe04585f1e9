use Rattle.std.proofs.Common.{◌≡◌, ◌-◌, length}
use Rattle.std.specs.Io.KnownBytes.{Keeps}
use Rattle.binfarce_io.specs.Output.{taken, has_failed}
use Rattle.binfarce_io.proofs.output.Output.end.Given as goal

-- what was taken stays, and no write has failed
abbrev pub invariant-loop-self : goal.invariant-loop-self
invariant-loop-self g l = record {
  kept : Keeps (taken g.W.Write.contents l.fn.self) (taken g.W.Write.contents l.self);
  failed : has_failed l.self ≡ has_failed l.fn.self;
}

abbrev pub decreases-loop-self : goal.decreases-loop-self
decreases-loop-self g l = length l.self.heading.items - l.self.done
