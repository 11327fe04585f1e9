use Rattle.std.proofs.Common.{◌≡◌, drop}
use Rattle.binfarce_logs.specs.Annotated.{found_among}
use Rattle.binfarce_logs.proofs.annotate.find_among.Given as goal

-- no file so far has a function symbol that holds the address
abbrev pub invariant-loop-at : goal.invariant-loop-at
invariant-loop-at l = found_among l.names l.address ≡ found_among (drop l.at l.names) l.address
