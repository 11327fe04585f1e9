use Rattle.std.proofs.Common.{◌≡◌, ◌-◌}
use Rattle.binfarce_identity.specs.MachoIdentity.{uuid_of}
use Rattle.binfarce_identity.proofs.UuidSteps.{uuid_from}
use Rattle.binfarce_identity.proofs.macho.uuid_of.Given as goal

-- the answer is that of the commands that are left
abbrev pub invariant-loop-k : goal.invariant-loop-k
invariant-loop-k l = uuid_from l.bytes (l.count - l._k) l.offset ≡ uuid_of l.bytes
