use Rattle.std.proofs.Common.{◌≡◌, map}
use Rattle.std.specs.Option.{option_map}
use Rattle.binfarce_bytes.specs.Found.{entry_at}
use Rattle.binfarce_bytes.specs.SymbolViews.{function_view}
use Rattle.binfarce_elf_memory.proofs.selection.Functions.symbol_at.Given as goal

-- what is found among those that came
abbrev pub invariant-loop-function : goal.invariant-loop-function
invariant-loop-function l = option_map function_view l.found ≡ entry_at (map (λ f. function_view f.function) l.yielded) l.address
