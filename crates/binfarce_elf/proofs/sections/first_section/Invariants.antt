use Rattle.std.proofs.Common.{◌≤◌, ◌-◌, Some}
use Rattle.binfarce_elf.specs.Elf.{walk}
use Rattle.binfarce_elf.specs.ElfViews.{section_view}
use Rattle.binfarce_elf.specs.machine.RawElf.{table_view, section_count, walk_from}
use Rattle.binfarce_bytes.proofs.Searches.{Reaches}
use Rattle.binfarce_elf.proofs.sections.first_section.Given as goal

-- the callback refused the sections before this index
abbrev pub invariant-loop-callback : goal.invariant-loop-callback
invariant-loop-callback g l =
    let class = g.C.Class.table in
    let t = table_view l.table in
    (l.index ≤ section_count class t)
    × Reaches (section_view g.C.Class.number_of) (goal.F-post g l.callback) (walk class t) (walk_from class t (Some l.index))

abbrev pub decreases-loop-callback : goal.decreases-loop-callback
decreases-loop-callback g l = section_count g.C.Class.table (table_view l.table) - l.index
