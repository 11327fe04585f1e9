-- The walk over the section headers of an ELF file, as a loop goes over it.
use Rattle.std.proofs.Common.{◌≡◌, ℕ, ◌+◌, ◌-◌, ◌*◌, ◌/◌, ◌<◌, ◌≤◌, Bool, true, false, length, Some, None, refl, sym, ap, ◌∙◌, arith, ltb, ◌&&◌, Result, Ok, Err, MatchResult}
use Rattle.std.specs.Option.{option_map}
use Rattle.std.specs.Result.{result_ok}
use Rattle.std.proofs.lemmas.Bool.{le-ltb, lt-ltb, le-leb, lt-leb}
use Rattle.std.proofs.lemmas.Nat.{le-div, div_below}
use Rattle.binfarce_bytes.specs.Refusal.{unexpected_eof}
use Rattle.binfarce_elf.specs.Elf.{ElfClass, SectionTable, Section, section_at, whole_headers, names_section, walk}

-- a header that is whole is one of those that the file has room for
pub is_whole : (len shoff start size i : ℕ) → 0 < size → start ≡ shoff + i * size → start + size ≤ len → i < (len - shoff) / size
is_whole len shoff start size i some at fits =
    let enough : (i + 1) * size ≤ len - shoff = grind arith in
    omega (arith, le-div (i + 1) (len - shoff) size some enough)

-- a header that is truncated is none of them
pub is_truncated : (len shoff start size i : ℕ) → 0 < size → start ≡ shoff + i * size → len < start + size → (len - shoff) / size ≤ i
is_truncated len shoff start size i some at truncated =
    let little : len - shoff < (i + 1) * size = grind arith in
    omega (arith, div_below (len - shoff) size (i + 1) some little)

pub done_is : (class : ElfClass) (table : SectionTable) → table.shoff < length table.file → table.shnum ≤ whole_headers class table → (walk class table).refusal ≡ None
unfolding walk
done_is class table inside room = rw (lt-ltb table.shoff (length table.file) inside, le-leb table.shnum (whole_headers class table) room) refl

and_false : (b : Bool) → (b && false) ≡ false
and_false true = refl
and_false false = refl

pub truncated_is : (class : ElfClass) (table : SectionTable) → whole_headers class table < table.shnum → (walk class table).refusal ≡ Some unexpected_eof
unfolding walk
truncated_is class table truncated = rw (lt-leb table.shnum (whole_headers class table) truncated, and_false (ltb table.shoff (length table.file))) refl

pub outside_is : (class : ElfClass) (table : SectionTable) → length table.file ≤ table.shoff → (walk class table).refusal ≡ Some unexpected_eof
unfolding walk
outside_is class table outside = rw (le-ltb table.shoff (length table.file) outside) refl

-- the header of the section names is truncated
pub names_truncated : (class : ElfClass) (table : SectionTable) (start : ℕ) → 0 < class.section_length → start ≡ table.shoff + table.shstrndx * class.section_length
    → length table.file < start + class.section_length → names_section class table ≡ None
names_truncated class table start some at truncated =
    let c : whole_headers class table ≤ table.shstrndx = is_truncated (length table.file) table.shoff start class.section_length table.shstrndx some at truncated in
    rw (le-ltb table.shstrndx (whole_headers class table) c) refl

-- the section of the section names, where its header was read
pub names_are : {T E : Type 0} (class : ElfClass) (table : SectionTable) (seen : T → Section) (start : ℕ) (read : Result T E) → 0 < class.section_length → start ≡ table.shoff + table.shstrndx * class.section_length
    → MatchResult read (λ s. (start + class.section_length ≤ length table.file) × (seen s ≡ section_at class table.order table.file start table.shstrndx)) (λ _. length table.file < start + class.section_length)
    → option_map seen (result_ok read) ≡ names_section class table
names_are class table seen start (Ok section) some at h =
    let whole : table.shstrndx < whole_headers class table = is_whole (length table.file) table.shoff start class.section_length table.shstrndx some at h.0 in
    rw (lt-ltb table.shstrndx (whole_headers class table) whole) (ap Some (h.1 ∙ ap (λ (n : ℕ). section_at class table.order table.file n table.shstrndx) at))
names_are class table seen start (Err e) some at h = sym (names_truncated class table start some at h)
