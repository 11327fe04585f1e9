use Rattle.std.specs.Prelude.{map}
use Rattle.binfarce.specs.SymbolViews.{function_view}
use Rattle.binfarce_c.specs.Functions.{AreFunctionsOf}
use Rattle.binfarce_c.proofs.functions.each_of.Given as goal

-- one function for each that came
abbrev pub invariant-loop-listed : goal.invariant-loop-listed
invariant-loop-listed l = AreFunctionsOf (map (λ f. function_view f.function) l.yielded) l.all.items
