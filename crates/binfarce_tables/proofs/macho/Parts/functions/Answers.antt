use Rattle.binfarce_tables.proofs.macho.Parts.functions.Goals as goal

pub returns : goal.returns
returns c = rw c.symbols_in.ensures at c.functions_of.ensures
