use Rattle.std.proofs.Common.{◌∙◌, ℕ, Some, None, ap, arith}
use Rattle.std.specs.Prelude.{slice_get}
use Rattle.binfarce_elf.specs.Classes.{class_of}
use Rattle.binfarce_elf.specs.Elf.{walk}
use Rattle.binfarce_elf.specs.machine.RawElf.{table_view}
use Rattle.binfarce_elf_memory.specs.Descriptors.{if_begun}
use Rattle.binfarce_elf_memory.proofs.Placed.{holding_is}
use Rattle.binfarce_elf_memory.proofs.descriptors.section_holding.Goals as goal

pub returns-in-None : goal.returns-in-None
returns-in-None c =
    let sections = walk (class_of c.args.width) (table_view c.args.table) in
    holding_is sections c.args.address _ c.args.ends.now None c.requires.are (omega (arith, c.from.ensures)) c.in-None.ensures.is

pub returns-in-Some : goal.returns-in-Some
returns-in-Some c =
    let sections = walk (class_of c.args.width) (table_view c.args.table) in
    c.if_begun.ensures
    ∙ ap (λ (i : ℕ). if_begun c.args.address i (slice_get sections.items i)) (omega arith)
    ∙ holding_is sections c.args.address _ c.args.ends.now (Some c.in-Some.number) c.requires.are (omega (arith, c.from.ensures)) c.in-Some.ensures.is
