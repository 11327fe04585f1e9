use Rattle.std.proofs.Common.{◌≡◌, ◌++◌}
use Rattle.binfarce_macho.specs.MachoSections.{first_starts}
use Rattle.binfarce_macho.proofs.numbered.push_starts.Given as goal

-- the starts so far are added
abbrev pub invariant-loop-index : goal.invariant-loop-index
invariant-loop-index l = l.starts.items ≡ l.initial.starts.items ++ first_starts l.body l.index
