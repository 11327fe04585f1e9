use Rattle.std.proofs.Common.{◌∙◌, Option, ap, ap₂, rules}
use Rattle.binfarce_logs.specs.Maps.{before_blank, mapping_with}
use Rattle.binfarce_logs.specs.declared.maps.Mapping.{Mapping}
use Rattle.binfarce_logs.proofs.maps.mapping_with.Goals as goal

pub returns : goal.returns
returns c =
    let is : Path (Option Mapping) c.mapping_at.result (mapping_with c.args.range.now c.before_blank-2.result.now c.before_blank.result.now) = search rules in
    is ∙ ap₂ (mapping_with c.args.range.now) c.before_blank-2.ensures (c.before_blank.ensures ∙ ap before_blank c.behind_blank.ensures)
