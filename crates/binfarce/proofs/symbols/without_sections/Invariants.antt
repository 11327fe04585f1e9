use Rattle.std.proofs.Common.{◌≡◌, map, take}
use Rattle.binfarce_bytes.specs.SymbolViews.{function_view, section_function_view}
use Rattle.binfarce.proofs.symbols.without_sections.Given as goal

-- the function symbols so far
abbrev pub invariant-loop-function : goal.invariant-loop-function
invariant-loop-function l = map function_view l.alone.items ≡ map (λ e. e.entry) (map section_function_view (take l.function-index l.functions))
