use Rattle.std.proofs.Common.{◌≡◌, map, take}
use Rattle.binfarce_logs.specs.Annotated.{files_of}
use Rattle.binfarce_logs.specs.Framed.{names_of}
use Rattle.binfarce_logs.proofs.framed.names_of.Given as goal

-- the names so far
abbrev pub invariant-loop-module : goal.invariant-loop-module
invariant-loop-module l = map (λ name. name.now) l.names.items ≡ names_of (files_of (take l.module-index l.modules))
