use Rattle.std.proofs.Common.{◌∙◌, ◌-◌, List, ℕ, get_or, drop, take, ap, sym, subst}
use Rattle.binfarce.specs.Symbol.{Entry}
use Rattle.binfarce_addresses.specs.declared.lookup.Lookup.{Lookup}
use Rattle.binfarce_addresses.specs.Places.{IsNamedAt}
use Rattle.binfarce_addresses.proofs.Kept.{if_some}
use Rattle.binfarce_addresses.proofs.names.Names.name_at.Goals as goal

pub returns-in-Some : goal.returns-in-Some
returns-in-Some c =
    let place = c.args.place in
    let part = c.in-Some.field-0.now in
    let here : Path (ℕ × ℕ) (get_or c.self.inside.kept.items place (0, 0)) (part.0, part.1) = ap (λ (ks : List (ℕ × ℕ)). get_or ks place (0, 0)) (sym c.deref.ensures.value) ∙ sym (c.in-Some.ensures.lookup.3.1 (0, 0)) in
    let kept = c.self.invariant place part.0 part.1 here c.if-from-to.true in
    if_some c.get-in-Some.result _ _ _ c.get-in-Some.ensures.cases
    (λ name is. subst (λ (es : List Entry). IsNamedAt es place name.now) (ap (λ (s : List Entry × Lookup). s.0) c.self.view_is)
    (subst (IsNamedAt c.self.inside.places.now place) (sym (is.0 ∙ ap (λ (xs : List ℕ). take (part.1 - part.0) (drop part.0 xs)) c.as_str.ensures.value)) kept.1))
