use Rattle.std.proofs.Common.{◌-◌, ℕ, Bool, Option, subst, sym}
use Rattle.std.specs.Option.{option_or}
use Rattle.binfarce.specs.Found.{entry_at}
use Rattle.binfarce_addresses.specs.Lookup.{entry_for}
use Rattle.binfarce_addresses.specs.machine.Places.{IsPlaceFor}
use Rattle.binfarce_addresses.proofs.Shown.{place_or}
use Rattle.binfarce_addresses.proofs.at.Places.place_for.Goals as goal

pub returns-then-not-is_return : goal.returns-then-not-is_return
returns-then-not-is_return c =
    let entries = c.args.self.now in
    subst (λ (b : Bool). IsPlaceFor entries (entry_for b entries c.args.address) c.place_of-here.result) (sym c.if-not-is_return.true) c.place_of-here.ensures

pub returns : goal.returns
returns c =
    let entries = c.args.self.now in
    let address = c.args.address in
    let before = subst (λ (n : ℕ). IsPlaceFor entries (entry_at entries n) c.place_of-before.result) c.saturating_sub.ensures c.place_of-before.ensures in
    let both = place_or entries (entry_at entries (address - 1)) (entry_at entries address) c.place_of-before.result c.place_of-here.result before c.place_of-here.ensures in
    subst (λ (b : Bool). IsPlaceFor entries (entry_for b entries address) c.or.result) (sym c.if-not-is_return.false)
    (subst (λ (o : Option ℕ). IsPlaceFor entries (option_or (entry_at entries (address - 1)) (entry_at entries address)) o) (sym c.or.ensures) both)
