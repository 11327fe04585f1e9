use Rattle.std.proofs.Common.{◌≡◌, take}
use Rattle.binfarce_logs.specs.Annotated.{longest_name}
use Rattle.binfarce_logs.proofs.annotate.longest_name.Given as goal

-- that of the files so far
abbrev pub invariant-loop-file : goal.invariant-loop-file
invariant-loop-file l = l.longest ≡ longest_name (take l.file-index l.names) l.before
