use Rattle.std.proofs.Common.{◌≡◌, ◌+◌, ◌*◌, ◌<◌, arith}
use Rattle.binfarce_elf.specs.Classes.{class_of}
use Rattle.binfarce_elf.specs.ElfViews.{section_view}
use Rattle.binfarce_elf.specs.machine.RawElf.{table_view}
use Rattle.binfarce_elf_memory.proofs.Placed.{none_numbered, none_whole, numbered_is}
use Rattle.binfarce_elf_memory.proofs.Pushed.{product}
use Rattle.binfarce_elf_memory.proofs.descriptors.section_numbered.Goals as goal

pub returns-then-index-table : goal.returns-then-index-table
returns-then-index-table c = none_numbered (class_of c.args.width) (table_view c.args.table) c.args.index (omega (arith, c.if-index-table.true))

pub returns-in-Ok : goal.returns-in-Ok
returns-in-Ok c =
    let class = class_of c.args.width in
    let t = table_view c.args.table in
    let some : 0 < class.section_length = omega (arith, c.section_length.ensures.is, c.section_length.ensures.some.0) in
    let from = product c.section_length.result c.from.result class.section_length c.args.index c.section_length.ensures.is c.from.ensures in
    let at : c.saturating_add-start.result ≡ t.shoff + c.args.index * class.section_length = omega (arith, c.in-Ok.ensures.0, c.saturating_add-start.ensures, from, some) in
    numbered_is class t c.args.index c.saturating_add-start.result some at (omega (arith, c.if-index-table.false)) c.in-Ok.ensures.0 (section_view (λ n. n) c.in-Ok.section) c.in-Ok.ensures.1

pub returns-in-Err : goal.returns-in-Err
returns-in-Err c =
    let class = class_of c.args.width in
    let t = table_view c.args.table in
    let some : 0 < class.section_length = omega (arith, c.section_length.ensures.is, c.section_length.ensures.some.0) in
    let from = product c.section_length.result c.from.result class.section_length c.args.index c.section_length.ensures.is c.from.ensures in
    none_whole class t c.args.index some (omega (arith, c.in-Err.ensures, c.saturating_add-start.ensures, from))
