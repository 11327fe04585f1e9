use Rattle.binfarce_elf.proofs.Names.{named_as}
use Rattle.binfarce_elf.proofs.sections.is_named.Goals as goal

pub returns-in-Some : goal.returns-in-Some
returns-in-Some c = rw c.in-Some.is (named_as c.in-Some.names.now c.args.offset c.args.name.now c.is_text_at.result c.is_text_at.ensures)
