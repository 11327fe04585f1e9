use Rattle.binfarce.specs.ElfFunctions.{functions_left}
use Rattle.binfarce.specs.ElfSymbols.{elf_file_answer}
use Rattle.binfarce_elf.specs.Classes.{class_of}
use Rattle.binfarce_c.specs.machine.Found.{ListsOr}
use Rattle.binfarce_c.proofs.Drained.{held_left}
use Rattle.binfarce_c.proofs.functions.of_elf.Goals as goal

pub returns : goal.returns
returns c =
    let found = c.in_ok-functions in
    let made = c.in_ok-all_of.ensures in
    let answer = elf_file_answer (class_of c.args.width) c.args.byte_order c.args.file.now c.args.section.now in
    held_left functions_left (ListsOr ⊥) answer found.functions found.size made.0 c.in_ok-all_of.field-0 found.ensures made.1 made.2
