use Rattle.std.proofs.Common.{◌≡◌, take}
use Rattle.binfarce_logs.specs.Annotated.{files_of}
use Rattle.binfarce_logs.proofs.annotate.new_files.Given as goal

-- the files so far
abbrev pub invariant-loop-module : goal.invariant-loop-module
invariant-loop-module l = l.names.items ≡ files_of (take l.module-index l.modules)
