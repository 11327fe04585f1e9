use Rattle.std.proofs.Common.{◌≡◌, ◌/◌, length, map}
use Rattle.std.specs.List.{range_with_len, flat_map}
use Rattle.binfarce_bytes.specs.SymbolViews.{section_function_view}
use Rattle.binfarce_macho.specs.MachoSelection.{numbered_view, selected_at, symbols_view}
use Rattle.binfarce_macho.specs.machine.RawMacho.{selected_view, HoldsKept}
use Rattle.binfarce_macho.proofs.functions.functions_in.Given as goal

-- the sections so far are listed, and the rows of the others are held
abbrev pub invariant-loop-index : goal.invariant-loop-index
invariant-loop-index l =
    (map section_function_view l.functions.items
    ≡ flat_map (selected_at (selected_view l.sections l.code) (symbols_view l.symbols)) (range_with_len 0 l.index))
    × HoldsKept (map numbered_view l.sections) (symbols_view l.symbols) (length l.symbols.rows.now / 16) l.index l.kept_rows.items l.kept.names.items
