use Rattle.std.proofs.Common.{◌≡◌, ◌++◌, ◌∙◌, ℕ, List, drop, length, ap, sym, subst}
use Rattle.std.specs.String.{string_bytes}
use Rattle.binfarce.specs.SymbolViews.{function_view}
use Rattle.binfarce_addresses.specs.Places.{IsNamedAt}
use Rattle.binfarce_addresses.specs.machine.Places.{AreKept}
use Rattle.binfarce_addresses.proofs.Kept.{behind, more_text, named, one_kept}
use Rattle.binfarce_addresses.proofs.names.Names.push_name_member.Goals as goal

pub invariant_of-self-in_err-push_str : goal.invariant_of-self-in_err-push_str
invariant_of-self-in_err-push_str c = subst (λ (text : List ℕ). AreKept c.self.inside.places.now text c.self.inside.kept.items) (sym c.in_err-push_str.ensures.bytes) c.self.invariant

pub invariant_of-self-2 : goal.invariant_of-self-2
invariant_of-self-2 c =
    let entries = c.self.inside.places.now in
    let before = string_bytes c.self.inside.text in
    let text = string_bytes c.push_str.new.self in
    let kept = c.self.inside.kept.items in
    let place = c.args.place in
    let name = c.as_str.result.now in
    let shown = c.in_ok-push_shown.ensures.shown in
    let grown : text ≡ before ++ name = c.in_ok-push_str.ensures.bytes in
    let old : AreKept entries text kept = subst (λ (t : List ℕ). AreKept entries t kept) (sym grown) (more_text entries before name kept c.self.invariant) in
    let is : name ≡ shown.0 = c.as_str.ensures.value ∙ shown.2 ∙ ap (λ (xs : List ℕ). xs ++ shown.0) c.new-name.ensures.bytes in
    let made : IsNamedAt entries place (drop (length c.as_str-from.result.now) text) =
    subst (IsNamedAt entries place) (sym (behind before c.as_str-from.result.now shown.0 text c.as_str-from.ensures.value (grown ∙ ap (λ (xs : List ℕ). before ++ xs) is)))
    (named entries place (function_view c.at.result) shown.0 c.at.ensures shown.1) in
    subst (AreKept entries text) (sym c.keep.ensures) (one_kept entries text kept place (length c.as_str-from.result.now) (length c.as_str-to.result.now) old (ap length c.as_str-to.ensures.value) made)
