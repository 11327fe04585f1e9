use Rattle.std.proofs.Common.{◌≡◌, ◌≤◌, Some}
use Rattle.binfarce_pe.specs.machine.RawPe.{header_count, walk_from}
use Rattle.binfarce_pe.specs.PeParts.{headers_view}
use Rattle.binfarce_pe.proofs.sections.section_left.Given as goal

-- so far each header was whole, and had no section
abbrev pub invariant-loop-index : goal.invariant-loop-index
invariant-loop-index l =
    (l.index ≤ header_count (headers_view l.table))
    × (walk_from (headers_view l.table) (Some l.from) ≡ walk_from (headers_view l.table) (Some l.index))
