use Rattle.std.proofs.Common.{refl}
use Rattle.binfarce.specs.declared.Format.TheVariants.{Elf32, Elf64, Macho, PE}
use Rattle.binfarce_tools.specs.Parts.{format_parts, parts_in}
use Rattle.test_reading.proofs.Logs.{only_these, in_format}
use Rattle.test_reading.proofs.recording.read_recorded.Goals as goal

pub returns-clause-only : goal.returns-clause-only
returns-clause-only c =
    only_these (parts_in c.args.which c.args.file.now) c.new-log.result.items c.read-tables.new.log.items c.new-log.ensures.items
    (c.read-tables.ensures.only c.args.file.now refl).asked

pub returns-clause-elf_of_32_bits : goal.returns-clause-elf_of_32_bits
unfolding format_parts
returns-clause-elf_of_32_bits c = λ order is. in_format c.args.which c.args.file.now (Elf32 order) c.read-tables.new.log.items is (returns-clause-only c)

pub returns-clause-elf_of_64_bits : goal.returns-clause-elf_of_64_bits
unfolding format_parts
returns-clause-elf_of_64_bits c = λ order is. in_format c.args.which c.args.file.now (Elf64 order) c.read-tables.new.log.items is (returns-clause-only c)

pub returns-clause-macho : goal.returns-clause-macho
unfolding format_parts
returns-clause-macho c = λ is. in_format c.args.which c.args.file.now Macho c.read-tables.new.log.items is (returns-clause-only c)

pub returns-clause-pe : goal.returns-clause-pe
unfolding format_parts
returns-clause-pe c = λ is. in_format c.args.which c.args.file.now PE c.read-tables.new.log.items is (returns-clause-only c)
