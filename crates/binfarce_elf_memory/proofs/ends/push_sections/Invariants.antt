use Rattle.std.proofs.Common.{◌≡◌, ◌++◌, ◌<◌, ◌^◌, All, map, min}
use Rattle.std.specs.List.{range_with_len}
use Rattle.binfarce_elf.specs.Elf.{section_of, whole_headers}
use Rattle.binfarce_elf_memory.specs.ElfEnds.{section_end}
use Rattle.binfarce_elf_memory.specs.SelectionViews.{kind_view}
use Rattle.binfarce_elf_memory.specs.machine.RawSelection.{key_of}
use Rattle.binfarce_elf.specs.machine.RawElf.{table_view}
use Rattle.binfarce_elf_memory.proofs.ends.push_sections.Given as goal

-- the keys of the sections so far are added
abbrev pub invariant-loop-index : goal.invariant-loop-index
invariant-loop-index g l =
    let class = g.C.Class.table in
    let t = table_view l.table in
    let ends = map (section_end (kind_view l.kind)) (map (section_of class t) (range_with_len 0 (min l.index (whole_headers class t)))) in
    (l.keys.items ≡ l.initial.keys.items ++ map key_of ends) × All (λ e. e.address < 2 ^ 64) ends
