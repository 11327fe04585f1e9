use Rattle.std.proofs.Common.{◌≡◌, ◌++◌, take, map}
use Rattle.std.specs.List.{filter_map}
use Rattle.binfarce_bytes.specs.RowViews.{rows_view}
use Rattle.binfarce_bytes.specs.Sizes.{addresses_of}
use Rattle.binfarce_bytes.specs.SymbolViews.{section_function_view}
use Rattle.binfarce_pe.specs.PeSelection.{rules_of, sections_view}
use Rattle.binfarce_pe.specs.machine.RawPe.{function_in, names_view}
use Rattle.binfarce_pe.proofs.functions.push_rows.Given as goal

-- the functions of the rows so far are added
abbrev pub invariant-loop-at : goal.invariant-loop-at
invariant-loop-at l =
    let rules = rules_of (sections_view l.sections) in
    map section_function_view l.functions.items
    ≡ map section_function_view l.initial.functions.items ++ filter_map (function_in rules l.index (names_view l.names) (addresses_of (rows_view l.rows))) (take l.at (rows_view l.rows))
