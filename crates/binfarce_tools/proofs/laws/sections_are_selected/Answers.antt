use Rattle.binfarce.specs.Elf.{elf32, elf64}
use Rattle.binfarce_tools.proofs.Selected.{elf_listed, section_listed, sized_in}
use Rattle.binfarce_tools.proofs.laws.sections_are_selected.Goals as goal

pub returns : goal.returns
returns c =
    let file = c.args.file.now in
    let section = c.args.section.now in
    record {
      of_elf32 = elf_listed elf32 c.args.byte_order file section;
      of_elf64 = elf_listed elf64 c.args.byte_order file section;
      of_either_32 = λ which. section_listed which elf32 c.args.byte_order file section;
      of_either_64 = λ which. section_listed which elf64 c.args.byte_order file section;
      sized = λ which. sized_in which file;
    }
