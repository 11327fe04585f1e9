use Rattle.binfarce_elf.specs.machine.RawElf.{table_view}
use Rattle.binfarce_elf.proofs.SectionsLeft.{all_left}
use Rattle.binfarce_elf.proofs.sections.sections_of.Goals as goal

pub returns : goal.returns
returns g c = all_left g.C.Class.table (table_view c.args.table)
