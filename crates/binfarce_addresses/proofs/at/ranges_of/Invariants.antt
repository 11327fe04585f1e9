use Rattle.std.proofs.Common.{◌≡◌, take}
use Rattle.binfarce_addresses.specs.machine.Places.{ranges_of}
use Rattle.binfarce_addresses.proofs.at.ranges_of.Given as goal

-- the ranges of the function symbols so far
abbrev pub invariant-loop-function : goal.invariant-loop-function
invariant-loop-function l = l.ranges.items ≡ ranges_of (take l.function-index l.functions)
