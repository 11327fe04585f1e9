-- The sections that an iterator has left.
use Rattle.std.proofs.Common.{◌≡◌, ℕ, suc, ◌+◌, ◌-◌, ◌<◌, ◌≤◌, Option, Some, refl, arith}
use Rattle.binfarce_bytes.specs.Refusal.{Refusal}
use Rattle.binfarce_bytes.specs.Walk.{ended, ahead_of}
use Rattle.binfarce_elf.specs.Elf.{ElfClass, SectionTable, section_of, walk}
use Rattle.binfarce_elf.specs.machine.RawElf.{section_count, walk_from}

-- at the start all are
pub all_left : (class : ElfClass) (table : SectionTable) → walk_from class table (Some 0) ≡ walk class table
unfolding walk
all_left class table =
    let all : section_count class table - 0 ≡ section_count class table = omega arith in
    rw all refl

-- section k comes next
pub next_is : (class : ElfClass) (table : SectionTable) (k : ℕ) → k < section_count class table
    → walk_from class table (Some k) ≡ ahead_of (section_of class table k) (walk_from class table (Some (k + 1)))
next_is class table k lt =
    let one : section_count class table - k ≡ suc (section_count class table - (k + 1)) = omega arith in
    rw one refl

-- no section is left
pub end_is : (class : ElfClass) (table : SectionTable) (k : ℕ) (end : Option Refusal) → section_count class table ≤ k → (walk class table).refusal ≡ end
    → walk_from class table (Some k) ≡ ended end
end_is class table k end le e =
    let none : section_count class table - k ≡ 0 = omega arith in
    rw (none, e) refl
