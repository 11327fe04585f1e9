use Rattle.binfarce.proofs.pe.Pe.selected_functions.Goals as goal

-- the reader holds the file's bytes
pub returns : goal.returns
returns c = rw (← c.self.view_is) c.functions_of_file.ensures
