use Rattle.std.proofs.Common.{◌≡◌, ◌++◌, map, take}
use Rattle.binfarce_bytes.specs.RowViews.{rows_view}
use Rattle.binfarce_bytes.specs.SymbolViews.{section_function_view}
use Rattle.binfarce_macho.specs.MachoSelection.{extent_view}
use Rattle.binfarce_macho.specs.machine.RawMacho.{function_in}
use Rattle.binfarce_macho.proofs.functions.push_kept.Given as goal

-- the function symbols of the rows so far are added
abbrev pub invariant-loop-at : goal.invariant-loop-at
invariant-loop-at l =
    map section_function_view l.functions.items
    ≡ map section_function_view l.initial.functions.items
    ++ map (function_in (extent_view l.section) l.number (map (λ t. t.now) l.names) (rows_view l.rows)) (take l.at (rows_view l.rows))
