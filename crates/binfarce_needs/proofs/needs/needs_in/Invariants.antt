use Rattle.std.proofs.Common.{◌≡◌, List, [], map}
use Rattle.std.specs.List.{range_with_len, filter_map}
use Rattle.binfarce_elf.specs.Classes.{class_of}
use Rattle.binfarce_elf.specs.ElfSymbols.{row_of}
use Rattle.binfarce_elf_memory.specs.Versions.{version_of}
use Rattle.binfarce_needs.specs.FileNeeds.{need_view}
use Rattle.binfarce_needs.specs.NeededVersions.{Version}
use Rattle.binfarce_needs.specs.Needs.{need_of}
use Rattle.binfarce_needs.specs.machine.Views.{Found}
use Rattle.binfarce_needs.proofs.needs.needs_in.Given as goal

-- the symbols of the rows so far
abbrev pub invariant-loop-k : goal.invariant-loop-k
invariant-loop-k l = (needed : List Version) → Found l.offsets [] needed
    → map need_view l.needs.items ≡ filter_map (λ k. need_of l.strings needed k (row_of (class_of l.width) l.byte_order l.rows k) (version_of l.byte_order l.versions k)) (range_with_len 0 l.k)
