use Rattle.std.proofs.Common.{◌≡◌, take}
use Rattle.binfarce_logs.specs.machine.Annotating.{reach}
use Rattle.binfarce_logs.proofs.annotate.reach_of.Given as goal

-- that of the files so far
abbrev pub invariant-loop-file : goal.invariant-loop-file
invariant-loop-file l = l.reach ≡ reach (take l.file-index l.names)
