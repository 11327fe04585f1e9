use Rattle.std.proofs.Common.{◌≡◌, map, take}
use Rattle.std.specs.List.{All}
use Rattle.binfarce.specs.SymbolViews.{section_function_view}
use Rattle.binfarce_figures.specs.machine.Listings.{HasName, entry_of}
use Rattle.binfarce_figures.proofs.rows.Listing.rows_of.Given as goal

-- the rows of the function symbols so far
abbrev pub invariant-loop-i : goal.invariant-loop-i
invariant-loop-i l = (map entry_of l.rows.items ≡ map section_function_view (take l.i l.functions)) × All (HasName l.self.shown.now.naming) l.rows.items
