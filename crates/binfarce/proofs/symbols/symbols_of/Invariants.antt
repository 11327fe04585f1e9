use Rattle.std.specs.Prelude.{map}
use Rattle.binfarce.specs.Symbol.{AreSymbolsOf}
use Rattle.binfarce_bytes.specs.SymbolViews.{function_view}
use Rattle.binfarce.proofs.symbols.symbols_of.Given as goal

-- one symbol for each that came
abbrev pub invariant-loop-function : goal.invariant-loop-function
invariant-loop-function g l = AreSymbolsOf (map function_view l.yielded) l.symbols.items
