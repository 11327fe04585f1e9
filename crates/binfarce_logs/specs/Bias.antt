-- Where a file is loaded whose code a loader mapped at a bias: what is added to each address of the file (System V gABI, "Program Loading": the base address).
use Rattle.std.specs.Prelude.{◌≡◌, ◌<◌, ◌≤◌, ◌+◌, ◌-◌, ◌^◌, ◌%◌, ◌&&◌, ℕ, List, All, Contains, nat_eq, Bool, true, false, Option, Some, None}
use Rattle.std.specs.List.{slice_split}
use Rattle.binfarce_logs.specs.Maps.{end_in, mapping_for, shares_bytes}
use Rattle.binfarce_logs.specs.declared.maps.Mapping.{Mapping}
use Rattle.binfarce_elf_memory.specs.declared.segments.CodeSegment.{CodeSegment}
use Rattle.binfarce_elf_memory.specs.declared.segments.LoadAddress.{LoadAddress}

-- each byte of the segment that a mapping has is at its address in the file and the bias, modulo 2^64
abbrev pub HasAtBias : (bias : ℕ) → CodeSegment → Mapping → Type 0
HasAtBias bias segment m = (offset : ℕ) → m.offset ≤ offset → offset < m.offset + m.size → segment.offset ≤ offset → offset < segment.offset + segment.size
    → (m.start + (offset - m.offset)) % 2 ^ 64 ≡ (bias + (segment.address + (offset - segment.offset))) % 2 ^ 64

-- so a mapping has it that may be executed; the offset of any is known, and has 64 bits
abbrev pub IsMadeBy : (bias : ℕ) → CodeSegment → Option Mapping → Type 0
IsMadeBy bias segment None = Unit {0}
IsMadeBy bias segment (Some m) = (m.has_offset ≡ true) × (m.offset < 2 ^ 64) × (m.is_code ≡ true → HasAtBias bias segment m)

-- a mapping may be executed, and has bytes of the segment
abbrev pub has_code : CodeSegment → Option Mapping → Bool
has_code segment None = false
has_code segment (Some m) = m.is_code && shares_bytes segment m

-- a file has bytes of code, all its mappings are made so, and one of them has some of these bytes
abbrev pub IsMappedBy : (bias : ℕ) → (mapping : List ℕ → Option Mapping) → (lines : List (List ℕ)) → Option CodeSegment → Type 0
IsMappedBy bias mapping lines None = ⊥
IsMappedBy bias mapping lines (Some segment) =
    (0 < segment.size) × (segment.offset < 2 ^ 64) × All (λ line. IsMadeBy bias segment (mapping line)) lines × ((line : List ℕ) × Contains lines line × (has_code segment (mapping line) ≡ true))

-- the lines of maps are such mappings of the file at this path
abbrev pub IsLoadedBy : (bias : ℕ) → (maps path : List ℕ) → LoadAddress → Type 0
IsLoadedBy bias maps path loaded = IsMappedBy bias (mapping_for (end_in maps path)) (slice_split (nat_eq 10) maps) loaded.code
