use Rattle.std.proofs.Common.{map, reverse}
use Rattle.binfarce.specs.SymbolViews.{section_function_view}
use Rattle.binfarce_figures.proofs.Places.{Claimed}
use Rattle.binfarce_figures.proofs.claims.claimed.Given as goal

-- the function symbols so far were claimed, and the spans cover their bytes
abbrev pub invariant-loop-function : goal.invariant-loop-function
invariant-loop-function l = Claimed (map section_function_view l.functions) (map section_function_view l.claims.items) l.function-index (reverse l.spans.items)
