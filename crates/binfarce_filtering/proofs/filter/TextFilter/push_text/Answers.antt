use Rattle.std.proofs.Common.{ℕ, List, ◌≡◌, ◌++◌, ◌∙◌, ◌-◌, length, take, drop, true, ap, sym, subst}
use Rattle.std.proofs.lemmas.List.{take-append-drop}
use Rattle.binfarce_filtering.specs.Filter.{is_run}
use Rattle.binfarce_filtering.specs.FilterViews.{Goes}
use Rattle.binfarce_filtering.proofs.Parts.{both_parts, goes_between, on_ok}
use Rattle.binfarce_filtering.proofs.Runs.{from_here}
use Rattle.binfarce_filtering.proofs.filter.TextFilter.push_text.Goals as goal

pub grow-requires : goal.grow-requires
grow-requires c =
    let part = c.args.part.now in
    let at = c.in_ok-at.at in
    let P : List ℕ → Type 0 = λ x. is_run x ≡ true in
    subst P (sym (from_here part at) ∙ ap (λ (x : List ℕ). x ++ take (length part - at) (drop at part)) (sym c.requires)) c.in_ok-at.ensures.run

pub returns : goal.returns
returns c =
    let self = c.args.self.now in
    let part = c.args.part.now in
    let at = c.in_ok-at.at in
    let tail = take (length part - at) (drop at part) in
    let out = c.args.out.now.items in
    let first = c.in_ok-at.ensures.shown in
    let whole : take at part ++ tail ≡ part = ap (λ (x : List ℕ). take at part ++ x) (from_here part at) ∙ take-append-drop at part in
    on_ok ((more : List ℕ) × Goes self c.grow.new.self tail more × (c.grow.new.out.items ≡ c.push_ended.new.out.items ++ more)) ((more : List ℕ) × Goes self c.grow.new.self part more × (c.grow.new.out.items ≡ out ++ more)) c.grow.result
    (λ second. both_parts self self c.grow.new.self (take at part) tail part out c.push_ended.new.out.items c.grow.new.out.items first.0 second.0 whole (goes_between self (take at part) first.0 c.requires first.1) second.1 first.2 second.2) c.grow.ensures
