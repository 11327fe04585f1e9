use Rattle.std.proofs.Common.{◌≡◌, ◌-◌, ◌*◌, ◌/◌, length}
use Rattle.std.specs.List.{range_with_len, filter_map}
use Rattle.binfarce_elf_memory.specs.ElfSegments.{code_at, first_of, program_length}
use Rattle.binfarce_elf_memory.proofs.segments.code_segment.Given as goal

-- the first of the segments that were passed
abbrev pub invariant-loop-i : goal.invariant-loop-i
invariant-loop-i l =
    let size = program_length l.width in
    l.first ≡ first_of (filter_map (λ i. code_at l.width l.byte_order l.headers (i * size)) (range_with_len l.i (length l.headers / size - l.i)))
