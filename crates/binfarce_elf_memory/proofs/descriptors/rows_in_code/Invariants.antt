use Rattle.std.proofs.Common.{◌≡◌}
use Rattle.std.specs.List.{range_with_len, flat_map}
use Rattle.binfarce_elf.specs.Classes.{class_of}
use Rattle.binfarce_elf.specs.Elf.{walk}
use Rattle.binfarce_elf.specs.ElfViews.{section_view}
use Rattle.binfarce_elf.specs.machine.RawElf.{table_view}
use Rattle.binfarce_elf_memory.specs.Descriptors.{row_in_code}
use Rattle.binfarce_elf_memory.proofs.descriptors.rows_in_code.Given as goal

-- the rows so far
abbrev pub invariant-loop-k : goal.invariant-loop-k
invariant-loop-k l = l.placed.items ≡ flat_map (row_in_code l.table.byte_order (walk (class_of l.width) (table_view l.table)) (section_view (λ n. n) l.section) l.descriptors l.rows) (range_with_len 0 l.k)
