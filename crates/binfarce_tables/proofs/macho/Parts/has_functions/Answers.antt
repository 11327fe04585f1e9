use Rattle.binfarce_tables.proofs.macho.Parts.has_functions.Goals as goal

pub returns : goal.returns
returns c = rw c.symbols_in.ensures at c.has_functions.ensures
