use Rattle.std.proofs.Common.{List, map, take}
use Rattle.std.specs.List.{AllZip}
use Rattle.binfarce.specs.SymbolViews.{section_function_view}
use Rattle.binfarce_tools.specs.Report.{Share}
use Rattle.binfarce_tools.specs.Tables.{section_names}
use Rattle.binfarce_figures.specs.Figures.{IsShareOf}
use Rattle.binfarce_figures.specs.Keys.{section_keys}
use Rattle.binfarce_figures.specs.machine.Counts.{AddsShares}
use Rattle.binfarce_figures.proofs.sums.add_claims.Given as goal

-- the shares of the function symbols so far were added
abbrev pub invariant-loop-claim : goal.invariant-loop-claim
invariant-loop-claim l =
    (shares : List Share) × AllZip (IsShareOf l.grouping (section_keys (section_names l.claims-inside.tables.now) l.claims-inside.size)) (map section_function_view (take l.claim-index l.claim-items)) shares
    × AddsShares l.counting shares l.fn.numbers l.numbers
