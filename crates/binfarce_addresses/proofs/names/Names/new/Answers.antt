use Rattle.std.proofs.Common.{◌≡◌, replicate, rules, sym, subst}
use Rattle.std.specs.String.{string_bytes}
use Rattle.binfarce_addresses.specs.machine.Places.{AreKept}
use Rattle.binfarce_addresses.proofs.Kept.{none_kept}
use Rattle.binfarce_addresses.proofs.names.Names.new.Goals as goal

pub invariant_of-result : goal.invariant_of-result
invariant_of-result c =
    let none : c.in_ok-vec.field-0.items ≡ replicate c.args.room (0, 0) = search rules in
    subst (AreKept c.args.places.now (string_bytes c.new-2.result)) (sym none) (none_kept c.args.places.now (string_bytes c.new-2.result) c.args.room)
