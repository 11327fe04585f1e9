use Rattle.std.proofs.Common.{◌≡◌, drop}
use Rattle.binfarce_logs.specs.Faults.{behind_mark}
use Rattle.binfarce_logs.proofs.faults.behind_mark.Given as goal

-- the bytes aren't there so far
abbrev pub invariant-loop-at : goal.invariant-loop-at
invariant-loop-at l = behind_mark l.mark l.text ≡ behind_mark l.mark (drop l.at l.text)
