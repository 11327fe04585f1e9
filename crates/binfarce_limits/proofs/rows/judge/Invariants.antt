use Rattle.std.proofs.Common.{◌≡◌, map, take}
use Rattle.binfarce_limits.specs.Rows.{finding_view, findings, limit_view}
use Rattle.binfarce_limits.proofs.rows.judge.Given as goal

-- what is said of the limits so far
abbrev pub invariant-loop-limit : goal.invariant-loop-limit
invariant-loop-limit g l = map finding_view l.found.items ≡ findings (g.R.Rows.counted l.rows) (map limit_view (take l.limit-index l.limits))
