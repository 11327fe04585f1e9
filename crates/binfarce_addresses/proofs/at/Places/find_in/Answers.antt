use Rattle.std.proofs.Common.{ℕ, Option, Some, None, subst, sym}
use Rattle.binfarce.specs.SymbolViews.{function_view}
use Rattle.binfarce_addresses.specs.Lookup.{entry_for}
use Rattle.binfarce_addresses.specs.Places.{IsFoundIn}
use Rattle.binfarce_addresses.specs.machine.Places.{IsPlaceFor}
use Rattle.binfarce_addresses.proofs.Shown.{no_place, place_within, some_place}
use Rattle.binfarce_addresses.proofs.at.Places.find_in.Goals as goal

pub returns-in_err-place : goal.returns-in_err-place
returns-in_err-place c =
    let entries = c.args.self.now in
    let r = c.args.is_return in
    let address = c.in_ok-address.address in
    let none = no_place r entries address (subst (λ (o : Option ℕ). IsPlaceFor entries (entry_for r entries address) o) c.in_err-place.was c.place_for.ensures) in
    subst (λ (a : Option ℕ). IsFoundIn entries r a c.from_residual-in_err-place.result) (sym c.in_ok-address.was) (subst (λ (o : Option (ℕ × ℕ)). IsFoundIn entries r (Some address) o) (sym c.from_residual-in_err-place.ensures) none)

pub at-requires : goal.at-requires
at-requires c =
    let entries = c.args.self.now in
    let entry = entry_for c.args.is_return entries c.in_ok-address.address in
    place_within entries entry c.in_ok-place.place (subst (IsPlaceFor entries entry) c.in_ok-place.was c.place_for.ensures)

pub returns : goal.returns
returns c =
    let entries = c.args.self.now in
    let r = c.args.is_return in
    let address = c.in_ok-address.address in
    let place = c.in_ok-place.place in
    let is = subst (IsPlaceFor entries (entry_for r entries address)) c.in_ok-place.was c.place_for.ensures in
    let some = some_place r entries address place (function_view c.at.result) is c.at.ensures in
    subst (λ (a : Option ℕ). IsFoundIn entries r a (Some (place, c.saturating_sub-offset.result))) (sym c.in_ok-address.was)
    (subst (λ (n : ℕ). IsFoundIn entries r (Some address) (Some (place, n))) (sym c.saturating_sub-offset.ensures) some)
