use Rattle.std.proofs.Common.{map}
use Rattle.binfarce_macho.specs.MachoSelection.{numbered_view, symbols_view}
use Rattle.binfarce_macho.specs.machine.RawMacho.{HoldsKept}
use Rattle.binfarce_macho.proofs.functions.kept_by_section.Given as goal

-- what is kept of the rows so far is held
abbrev pub invariant-loop-k : goal.invariant-loop-k
invariant-loop-k l = HoldsKept (map numbered_view l.sections) (symbols_view l.symbols) l.k 0 l.rows.items l.names.items
