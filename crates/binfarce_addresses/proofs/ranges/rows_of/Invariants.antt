use Rattle.binfarce_addresses.proofs.Rows.{AreMade}
use Rattle.binfarce_addresses.proofs.ranges.rows_of.Given as goal

-- a row for each range so far
abbrev pub invariant-loop-place : goal.invariant-loop-place
invariant-loop-place l = AreMade l.ranges l.rows.items l.place
