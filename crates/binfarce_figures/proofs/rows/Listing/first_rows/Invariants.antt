use Rattle.std.proofs.Common.{map, take}
use Rattle.std.specs.String.{string_bytes}
use Rattle.binfarce.specs.SymbolViews.{section_function_view}
use Rattle.binfarce_tools.proofs.Lines.{AreLines}
use Rattle.binfarce_figures.proofs.RowListings.{IsRow}
use Rattle.binfarce_figures.proofs.rows.Listing.first_rows.Given as goal

-- the rows of the function symbols so far
abbrev pub invariant-loop-function : goal.invariant-loop-function
invariant-loop-function l = AreLines (IsRow l.self) (map section_function_view (take l.function-index (take l.count l.functions))) (string_bytes l.text)
