use Rattle.std.proofs.Common.{ℕ, List, drop, length, ap, sym, subst}
use Rattle.std.specs.String.{string_bytes}
use Rattle.binfarce.specs.SymbolViews.{function_view}
use Rattle.binfarce_addresses.specs.Places.{IsNamedAt}
use Rattle.binfarce_addresses.specs.machine.Places.{AreKept}
use Rattle.binfarce_addresses.proofs.Kept.{behind, more_text, named, one_kept}
use Rattle.binfarce_addresses.proofs.names.Names.push_name.Goals as goal
use Rattle.binfarce_addresses.proofs.names.Names.push_name.Goals.{After-extend_from_slice-2}

-- the name that is made
made : (c : After-extend_from_slice-2) → IsNamedAt c.self.inside.places.now c.args.place (drop (length c.as_str-from.result.now) (string_bytes c.push_shown.new.text))
made c =
    let shown = c.in_ok-push_shown.ensures.shown in
    subst (IsNamedAt c.self.inside.places.now c.args.place) (sym (behind (string_bytes c.self.inside.text) c.as_str-from.result.now shown.0 (string_bytes c.push_shown.new.text) c.as_str-from.ensures.value shown.2))
    (named c.self.inside.places.now c.args.place (function_view c.at.result) shown.0 c.at.ensures shown.1)

pub invariant_of-self : goal.invariant_of-self
invariant_of-self c = subst (λ (text : List ℕ). AreKept c.self.inside.places.now text c.self.inside.kept.items) (sym c.in_err-push_shown.ensures.unchanged) c.self.invariant

pub invariant_of-self-2 : goal.invariant_of-self-2
invariant_of-self-2 c =
    let entries = c.self.inside.places.now in
    let text = string_bytes c.push_shown.new.text in
    let kept = c.self.inside.kept.items in
    let shown = c.in_ok-push_shown.ensures.shown in
    let old : AreKept entries text kept = subst (λ (t : List ℕ). AreKept entries t kept) (sym shown.2) (more_text entries (string_bytes c.self.inside.text) shown.0 kept c.self.invariant) in
    subst (AreKept entries text) (sym c.keep.ensures) (one_kept entries text kept c.args.place (length c.as_str-from.result.now) (length c.as_str-to.result.now) old (ap length c.as_str-to.ensures.value) (made c))
