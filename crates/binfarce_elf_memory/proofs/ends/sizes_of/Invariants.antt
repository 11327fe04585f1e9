use Rattle.std.proofs.Common.{◌≡◌, List, map}
use Rattle.std.specs.List.{range_with_len}
use Rattle.binfarce_elf.specs.Classes.{class_of}
use Rattle.binfarce_elf_memory.specs.ElfEnds.{End, size_of}
use Rattle.binfarce_elf.specs.ElfSymbols.{row_of}
use Rattle.binfarce_elf_memory.specs.machine.RawSelection.{AreKeysOf}
use Rattle.binfarce_elf_memory.proofs.ends.sizes_of.Given as goal

-- those of the rows so far
abbrev pub invariant-loop-k : goal.invariant-loop-k
invariant-loop-k l = (ends : List End) → AreKeysOf ends l.keys → l.sizes.items ≡ map (λ k. size_of ends l.has_modes (row_of (class_of l.width) l.byte_order l.rows k)) (range_with_len 0 l.k)
