use Rattle.std.proofs.Common.{map, take}
use Rattle.std.specs.String.{string_bytes}
use Rattle.binfarce_tools.proofs.Lines.{AreLines}
use Rattle.binfarce_figures.specs.machine.Listings.{entry_of}
use Rattle.binfarce_figures.proofs.RowListings.{IsRow}
use Rattle.binfarce_figures.proofs.rows.Listing.first_named.Given as goal

-- the rows so far
abbrev pub invariant-loop-row : goal.invariant-loop-row
invariant-loop-row l = AreLines (IsRow l.self) (map entry_of (take l.row-index (take l.count l.rows))) (string_bytes l.text)
