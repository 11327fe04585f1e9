use Rattle.std.proofs.Common.{rules}
use Rattle.binfarce_elf_memory.proofs.RowsLeft.{shown_is}
use Rattle.binfarce_elf_memory.proofs.selection.Functions.symbol_at.Goals as goal

pub returns : goal.returns
returns c = shown_is c.args.self c.loop-function.yielded c.args.address _ (search rules) c.loop-function.invariant
