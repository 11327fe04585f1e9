use Rattle.std.proofs.Common.{◌≡◌, drop, true}
use Rattle.binfarce_logs.specs.Maps.{begun_at}
use Rattle.binfarce_logs.proofs.maps.begun_at.Given as goal

-- no mapping begins so far
abbrev pub invariant-loop-at : goal.invariant-loop-at
invariant-loop-at l = begun_at true l.text ≡ begun_at l.may_begin (drop l.at l.text)
