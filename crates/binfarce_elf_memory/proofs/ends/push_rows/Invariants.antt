use Rattle.std.proofs.Common.{◌≡◌, ◌++◌, ◌<◌, ◌^◌, All, map}
use Rattle.binfarce_elf.specs.Classes.{class_of}
use Rattle.binfarce_elf_memory.specs.ElfEnds.{symbol_ends}
use Rattle.binfarce_elf_memory.specs.machine.RawSelection.{key_of}
use Rattle.binfarce_elf.specs.machine.RawElf.{rows_view}
use Rattle.binfarce_elf_memory.proofs.ends.push_rows.Given as goal

-- the keys of the rows so far are added
abbrev pub invariant-loop-k : goal.invariant-loop-k
invariant-loop-k l =
    let ends = symbol_ends (class_of l.width) l.byte_order l.has_modes (rows_view l.found) l.k in
    (l.keys.items ≡ l.initial.keys.items ++ map key_of ends) × All (λ e. e.address < 2 ^ 64) ends
