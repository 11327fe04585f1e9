use Rattle.std.proofs.Common.{◌≡◌, ◌-◌, ◌*◌, ◌/◌, length}
use Rattle.std.specs.List.{range_with_len, filter_map}
use Rattle.binfarce_bytes.specs.Sizes.{least}
use Rattle.binfarce_elf_memory.specs.ElfSegments.{load_at, program_length}
use Rattle.binfarce_elf_memory.proofs.segments.load_page.Given as goal

-- the lowest of the segments that were passed
abbrev pub invariant-loop-i : goal.invariant-loop-i
invariant-loop-i l =
    let size = program_length l.width in
    l.lowest ≡ least (filter_map (λ i. load_at l.width l.byte_order l.headers (i * size)) (range_with_len l.i (length l.headers / size - l.i)))
