-- The sections that an iterator has left.
use Rattle.std.proofs.Common.{◌≡◌, ℕ, suc, ◌+◌, ◌-◌, ◌<◌, ◌≤◌, Option, Some, None, refl, arith}
use Rattle.binfarce_bytes.specs.Refusal.{Refusal}
use Rattle.binfarce_bytes.specs.Walk.{ended, ahead_of}
use Rattle.binfarce_pe.specs.Pe.{Section}
use Rattle.binfarce_pe.specs.PeParts.{SectionTable, section_in, table_walk}
use Rattle.binfarce_pe.specs.machine.RawPe.{header_count, walk_from}

-- at the start all are
pub all_left : (table : SectionTable) → walk_from table (Some 0) ≡ table_walk table
unfolding table_walk
all_left table =
    let all : header_count table - 0 ≡ header_count table = omega arith in
    rw all refl

-- header k has the section that comes next
pub next_is : (table : SectionTable) (k : ℕ) (section : Section) → k < header_count table → section_in table k ≡ Some section
    → walk_from table (Some k) ≡ ahead_of section (walk_from table (Some (k + 1)))
next_is table k section lt e =
    let one : header_count table - k ≡ suc (header_count table - (k + 1)) = omega arith in
    rw (one, e) refl

-- header k has none, since its name isn't UTF-8
pub passed : (table : SectionTable) (k : ℕ) → k < header_count table → section_in table k ≡ None → walk_from table (Some k) ≡ walk_from table (Some (k + 1))
passed table k lt e =
    let one : header_count table - k ≡ suc (header_count table - (k + 1)) = omega arith in
    rw (one, e) refl

-- no header is left
pub end_is : (table : SectionTable) (k : ℕ) (end : Option Refusal) → header_count table ≤ k → (table_walk table).refusal ≡ end → walk_from table (Some k) ≡ ended end
end_is table k end le e =
    let none : header_count table - k ≡ 0 = omega arith in
    rw (none, e) refl
