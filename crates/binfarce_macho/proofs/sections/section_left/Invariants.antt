use Rattle.std.proofs.Common.{◌≡◌, ◌≤◌}
use Rattle.binfarce_macho.specs.machine.RawMacho.{section_count, segment_from}
use Rattle.binfarce_macho.proofs.sections.section_left.Given as goal

-- so far each structure was whole, and had no section
abbrev pub invariant-loop-index : goal.invariant-loop-index
invariant-loop-index l =
    (l.index ≤ section_count l.bytes l.segment)
    × (segment_from l.bytes l.segment ≡ segment_from l.bytes (record l.segment { next = l.index }))
