use Rattle.std.proofs.Common.{List, ℕ, ap, ◌∙◌}
use Rattle.binfarce_logs.specs.Maps.{base_at, base_for, if_agreed}
use Rattle.binfarce_logs.proofs.maps.base_of.Goals as goal

pub returns : goal.returns
returns c =
    let maps = c.args.maps.now in
    c.if_agreed.ensures ∙ ap (if_agreed maps c.end_in-end.result.now c.args.loaded.code) (c.base_at-base.ensures ∙ ap (base_at maps c.end_in-end.result.now) c.placed_in.ensures)
    ∙ ap (λ (end : List ℕ). base_for maps end c.args.loaded) c.end_in-end.ensures
