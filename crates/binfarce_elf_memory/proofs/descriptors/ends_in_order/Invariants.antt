use Rattle.std.proofs.Common.{◌≡◌, take}
use Rattle.binfarce_elf.specs.Classes.{class_of}
use Rattle.binfarce_elf.specs.Elf.{walk}
use Rattle.binfarce_elf.specs.machine.RawElf.{table_view}
use Rattle.binfarce_elf_memory.specs.Descriptors.{code_ends}
use Rattle.binfarce_elf_memory.proofs.descriptors.ends_in_order.Given as goal

-- those of the sections so far
abbrev pub invariant-loop-index : goal.invariant-loop-index
invariant-loop-index l = l.ends.items ≡ code_ends (take l.index (walk (class_of l.width) (table_view l.table)).items)
