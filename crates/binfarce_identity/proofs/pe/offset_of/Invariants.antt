use Rattle.std.proofs.Common.{◌≡◌, ◌-◌}
use Rattle.binfarce_identity.specs.PeIdentity.{offset_from}
use Rattle.binfarce_identity.specs.machine.Views.{place_view}
use Rattle.binfarce_identity.proofs.pe.offset_of.Given as goal

-- the answer is that of the sections that are left
abbrev pub invariant-loop-index : goal.invariant-loop-index
invariant-loop-index l = offset_from l.headers (place_view l.place) (l.count - l.index) l.index ≡ offset_from l.headers (place_view l.place) l.count 0
