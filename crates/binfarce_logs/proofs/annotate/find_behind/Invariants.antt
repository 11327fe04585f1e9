use Rattle.binfarce_logs.proofs.Among.{IsOnly}
use Rattle.binfarce_logs.proofs.annotate.find_behind.Given as goal

-- the only file so far that has the longest name
abbrev pub invariant-loop-at : goal.invariant-loop-at
invariant-loop-at l = IsOnly l.longest l.names l.before l.at l.here
