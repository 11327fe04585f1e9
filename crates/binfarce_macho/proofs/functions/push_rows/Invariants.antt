use Rattle.std.proofs.Common.{◌≡◌, Ok, map, take}
use Rattle.binfarce_bytes.specs.RowViews.{rows_view}
use Rattle.binfarce_bytes.specs.SymbolViews.{section_function_view}
use Rattle.binfarce_macho.specs.machine.RawMacho.{text_added}
use Rattle.binfarce_macho.proofs.functions.push_rows.Given as goal

-- the function symbols of the rows so far are added, of which none was refused
abbrev pub invariant-loop-k : goal.invariant-loop-k
invariant-loop-k l = text_added (map section_function_view l.initial.functions.items) l.text (rows_view (take l.k l.rows)) ≡ Ok (map section_function_view l.functions.items)
