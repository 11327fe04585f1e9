use Rattle.std.proofs.Common.{◌≡◌, List, map}
use Rattle.std.specs.List.{range_with_len, filter_map}
use Rattle.binfarce_bytes.specs.SymbolViews.{section_function_view}
use Rattle.binfarce_elf.specs.Classes.{class_of}
use Rattle.binfarce_elf_memory.specs.ElfEnds.{End}
use Rattle.binfarce_elf_memory.specs.ElfSelection.{entry_sized}
use Rattle.binfarce_elf.specs.ElfSymbols.{row_of}
use Rattle.binfarce_elf_memory.specs.SelectionViews.{taken_view}
use Rattle.binfarce_elf_memory.specs.Versions.{version_of}
use Rattle.binfarce_elf_memory.specs.machine.RawSelection.{AreKeysOf}
use Rattle.binfarce_elf_memory.proofs.selection.list_in.Given as goal

-- the functions of the rows so far
abbrev pub invariant-loop-k : goal.invariant-loop-k
invariant-loop-k l = (ends : List End) → AreKeysOf ends l.keys
    → map section_function_view l.functions.items ≡ filter_map (λ k. entry_sized l.strings (taken_view l.taken) l.has_modes ends (row_of (class_of l.width) l.byte_order l.rows k) (version_of l.byte_order l.versions k)) (range_with_len 0 l.k)
