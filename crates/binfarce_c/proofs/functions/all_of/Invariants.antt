use Rattle.std.specs.Prelude.{map}
use Rattle.binfarce.specs.SymbolViews.{function_view}
use Rattle.binfarce_c.specs.Functions.{AreFunctionsOf}
use Rattle.binfarce_c.proofs.functions.all_of.Given as goal

-- one function for each that came
abbrev pub invariant-loop-function : goal.invariant-loop-function
invariant-loop-function g l = AreFunctionsOf (map function_view l.yielded) l.all.items
