use Rattle.std.proofs.Common.{◌≡◌, ◌<◌, ◌-◌, ℕ, length}
use Rattle.std.specs.BTreeMap.{get}
use Rattle.std.specs.Ordering.{nat_cmp}
use Rattle.std.specs.Option.{option_or}
use Rattle.binfarce_elf_memory.specs.Versions.{definitions, definitions_from, name_offset}
use Rattle.binfarce_elf_memory.proofs.versions.name_offsets.Given as goal

-- what the definitions so far don't define, those that are left do
abbrev pub invariant-loop-passed : goal.invariant-loop-passed
invariant-loop-passed l = (index : ℕ) → index < 32768
    → option_or (get nat_cmp l.offsets index) (name_offset (definitions_from l.byte_order l.section (length l.section - l._passed) l.start) index) ≡ name_offset (definitions l.byte_order l.section) index
