use Rattle.std.specs.Option.{option_map}
use Rattle.binfarce_elf.specs.Classes.{class_of}
use Rattle.binfarce_elf_memory.specs.ElfParts.{sections_left}
use Rattle.binfarce_sections.proofs.Opening.{opened}
use Rattle.binfarce_sections.proofs.sections.open_elf.Goals as goal

pub returns-clause-opens : goal.returns-clause-opens
returns-clause-opens c =
    opened (class_of c.args.width) c.args.byte_order c.args.bytes.now (option_map (λ b. b.now) c.in_ok-left.names) (sections_left c.in_ok-left.left)
    c.in_ok-left.ensures.0 c.in_ok-left.ensures.1 c.in_ok-left.ensures.2
