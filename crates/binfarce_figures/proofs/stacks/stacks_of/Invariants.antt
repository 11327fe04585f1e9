use Rattle.std.proofs.Common.{◌≡◌, List, map, take}
use Rattle.std.specs.List.{AllZip, flat_map}
use Rattle.std.specs.String.{string_bytes}
use Rattle.binfarce.specs.SymbolViews.{section_function_view}
use Rattle.binfarce_tools.specs.Report.{Share}
use Rattle.binfarce_tools.specs.Tables.{section_names}
use Rattle.binfarce_figures.specs.declared.key.Key.TheVariants.{Stack}
use Rattle.binfarce_figures.specs.Figures.{IsShareOf, claim_line}
use Rattle.binfarce_figures.specs.Keys.{section_keys}
use Rattle.binfarce_figures.proofs.stacks.stacks_of.Given as goal

-- the lines so far
abbrev pub invariant-loop-claim : goal.invariant-loop-claim
invariant-loop-claim l =
    (shares : List Share) × AllZip (IsShareOf (record { key = Stack; joins_std = l.joins_std }) (section_keys (section_names l.claims-inside.tables.now) l.claims-inside.size)) (map section_function_view (take l.claim-index l.claim-items)) shares
    × (string_bytes l.text ≡ flat_map claim_line shares)
