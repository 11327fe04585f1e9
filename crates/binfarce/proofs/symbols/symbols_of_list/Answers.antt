use Rattle.std.proofs.Common.{ap, ◌∙◌}
use Rattle.binfarce.proofs.Made.{symbols_of_copies, some_copies}
use Rattle.binfarce.proofs.symbols.symbols_of_list.Goals as goal

pub returns-clause-symbols : goal.returns-clause-symbols
returns-clause-symbols c =
    symbols_of_copies c.copied.result c.args.functions.now c.symbols_of.result (ap (λ it. it.rest.now) c.copied.ensures.source ∙ c.iter.ensures.rest) c.symbols_of.ensures.symbols

pub returns-clause-memory : goal.returns-clause-memory
returns-clause-memory c =
    some_copies c.copied.result c.args.functions.now c.symbols_of.result (ap (λ it. it.rest.now) c.copied.ensures.source ∙ c.iter.ensures.rest) c.symbols_of.ensures.memory
