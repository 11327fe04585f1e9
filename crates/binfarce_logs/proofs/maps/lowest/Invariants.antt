use Rattle.std.proofs.Common.{◌≡◌, length, nat_eq}
use Rattle.std.specs.List.{slice_split}
use Rattle.binfarce_logs.specs.Maps.{less_of, lowest, lowest_among}
use Rattle.binfarce_logs.specs.machine.Wanted.{value_for}
use Rattle.binfarce_logs.proofs.Mapped.{value_in}
use Rattle.binfarce_logs.proofs.maps.lowest.Given as goal

-- the lowest so far, or that of the rest, is that of all
abbrev pub invariant-loop-rest : goal.invariant-loop-rest
invariant-loop-rest l = lowest (value_for l.wanted) l.maps ≡ less_of l.lowest (lowest_among (value_in l.wanted) (slice_split (nat_eq 10) l.rest))

abbrev pub decreases-loop-rest : goal.decreases-loop-rest
decreases-loop-rest l = length l.rest
