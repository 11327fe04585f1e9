use Rattle.binfarce_macho.specs.MachoSelection.{symbols_view}
use Rattle.binfarce_macho.specs.machine.RawMacho.{selected_view}
use Rattle.binfarce_macho.proofs.SomeKept.{NoneBelow}
use Rattle.binfarce_macho.proofs.functions.keeps_some.Given as goal

-- none of the rows so far is kept
abbrev pub invariant-loop-k : goal.invariant-loop-k
invariant-loop-k l = NoneBelow (selected_view l.sections l.code) (symbols_view l.symbols) l.k
