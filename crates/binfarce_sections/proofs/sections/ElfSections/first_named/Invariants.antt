use Rattle.std.proofs.Common.{◌≡◌}
use Rattle.binfarce.specs.Walk.{first}
use Rattle.std.specs.Option.{option_map}
use Rattle.binfarce_elf_memory.specs.ElfParts as elf_parts
use Rattle.binfarce_sections.specs.Named.{is_named}
use Rattle.binfarce_sections.specs.Section.{elf_named, mapped}
use Rattle.binfarce_sections.specs.Views.{elf_left, named_by}
use Rattle.binfarce_sections.proofs.sections.ElfSections.first_named.Given as goal

-- what is found in all sections is what is found in those that are left
abbrev pub invariant-loop-section : goal.invariant-loop-section
invariant-loop-section l = first (is_named l.name) (elf_left l.fn.self) ≡ first (is_named l.name) (mapped (elf_named (named_by (option_map (λ b. b.now) l.names))) (elf_parts.sections_left l.section-iterator))
