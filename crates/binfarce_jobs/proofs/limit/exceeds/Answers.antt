use Rattle.std.proofs.Common.{◌∙◌, ◌||◌, Bool, ap, map, sym}
use Rattle.binfarce_limits.specs.Rows.{finding_view}
use Rattle.binfarce_jobs.specs.Limit.{are_above}
use Rattle.binfarce_jobs.proofs.AboveRows.{any_above}
use Rattle.binfarce_jobs.proofs.limit.exceeds.Goals as goal

pub returns-else-is_some : goal.returns-else-is_some
returns-else-is_some c = c.are_above.ensures ∙ any_above c.args.rows.now ∙ ap (λ (b : Bool). b || are_above (map finding_view c.args.rows.now)) (sym (sym c.is_some.ensures ∙ c.if-is_some.false))
