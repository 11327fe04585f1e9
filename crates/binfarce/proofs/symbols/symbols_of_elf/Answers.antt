use Rattle.binfarce.specs.ElfFunctions.{functions_left}
use Rattle.binfarce.proofs.Made.{symbols_are}
use Rattle.binfarce.proofs.symbols.symbols_of_elf.Goals as goal

pub returns-clause-symbols : goal.returns-clause-symbols
returns-clause-symbols c = symbols_are functions_left (record { all = c.args.functions }) c.symbols_of.result c.symbols_of.ensures.symbols
