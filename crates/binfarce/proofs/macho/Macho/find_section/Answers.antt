use Rattle.binfarce.proofs.macho.Macho.find_section.Goals as goal

-- the reader holds the file's bytes
pub returns : goal.returns
returns g c = rw (← c.self.view_is) c.find_section.ensures
