use Rattle.std.proofs.Common.{◌≤◌, Some, length}
use Rattle.binfarce_pe.specs.PeParts.{headers_view, table_walk}
use Rattle.binfarce_pe.specs.PeViews.{section_view}
use Rattle.binfarce_pe.specs.machine.RawPe.{header_count, walk_from}
use Rattle.binfarce_bytes.proofs.Searches.{Reaches}
use Rattle.binfarce_pe.proofs.sections.first_section.Given as goal

-- the callback refused the sections before the next header
abbrev pub invariant-loop-callback : goal.invariant-loop-callback
invariant-loop-callback g l =
    (l.next ≤ header_count (headers_view l.table))
    × Reaches section_view (goal.F-post g l.callback) (table_walk (headers_view l.table)) (walk_from (headers_view l.table) (Some l.next))

abbrev pub decreases-loop-callback : goal.decreases-loop-callback
decreases-loop-callback g l = length (walk_from (headers_view l.table) (Some l.next)).items
