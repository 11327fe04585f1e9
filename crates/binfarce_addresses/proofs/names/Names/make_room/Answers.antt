use Rattle.std.proofs.Common.{ℕ, ap₂, subst, sym}
use Rattle.std.specs.String.{string_bytes}
use Rattle.std.specs.Vec.{vec_len}
use Rattle.binfarce_addresses.specs.machine.Places.{AreKept}
use Rattle.binfarce_addresses.proofs.Kept.{none_kept}
use Rattle.binfarce_addresses.proofs.names.Names.make_room.Goals as goal

pub invariant_of-self : goal.invariant_of-self
invariant_of-self c =
    let entries = c.self.inside.places.now in
    let text = string_bytes c.clear.new.self in
    subst (AreKept entries text) (sym (c.fill.ensures.items (λ y is. ap₂ (λ (a b : ℕ). (a, b)) is.0 is.1))) (none_kept entries text (vec_len c.self.inside.kept))
