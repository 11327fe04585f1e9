use Rattle.std.proofs.Common.{◌≡◌, ◌+◌, ◌*◌, ◌<◌, ◌∙◌, ap, arith}
use Rattle.std.specs.Option.{option_map}
use Rattle.binfarce_elf.specs.ElfViews.{section_view}
use Rattle.binfarce_elf.specs.machine.RawElf.{table_view}
use Rattle.binfarce_elf.proofs.Walks.{names_are}
use Rattle.binfarce_elf.proofs.sections.names_section.Goals as goal

pub returns : goal.returns
returns g c =
    let some : 0 < g.C.Class.table.section_length = omega (arith, g.met.C.Class.some_section, g.met.C.Class.section_length) in
    let at : c.in_ok-start.start ≡ c.args.table.shoff + c.args.table.shstrndx * g.C.Class.table.section_length = grind (arith, g.met.C.Class.section_length, c.in_ok-start.ensures, c.in_ok-before.ensures) in
    ap (option_map (section_view g.C.Class.number_of)) c.ok.ensures.value ∙ names_are g.C.Class.table (table_view c.args.table) (section_view g.C.Class.number_of) c.in_ok-start.start c.section_at.result some at c.section_at.ensures
