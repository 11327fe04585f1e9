-- Where a mapping of a segment begins, for each size of pages by which it may be loaded: 4, 16 and 64 KiB (System V gABI, "Program Loading").
use Rattle.std.specs.Prelude.{◌≡◌, ℕ, ◌-◌, ◌%◌, Bool, ◌&&◌, nat_eq, nat_lt, Option, Some, None, if◌then◌else◌}
use Rattle.std.proofs.Common.{refl}

-- the largest page that loads a segment of this alignment (`p_align`). Its size divides the alignment, modulo which the segment's address and its offset in
-- the file are congruent. It is 1 if none loads it, also if the alignment is 0: no page's beginning is then known
abbrev pub largest_page : (align : ℕ) → ℕ
largest_page align = if nat_eq align 0 then 1 else if nat_eq (align % 65536) 0 then 65536 else if nat_eq (align % 16384) 0 then 16384 else if nat_eq (align % 4096) 0 then 4096 else 1

-- the beginning of the page of this size in which an address is
abbrev pub page_at : (page address : ℕ) → ℕ
page_at page address = address - address % page

-- a mapping at this offset in the file may begin with the page of this size that an address is in: both are congruent modulo the largest page
abbrev pub may_begin : (largest offset page address : ℕ) → Bool
may_begin largest offset page address = nat_lt 1 largest && nat_eq (page_at page address % largest) (offset % largest)

-- where it begins, of a segment that begins at this address. Where the pages of two sizes begin at different addresses, these aren't congruent modulo the
-- largest one, so the offset decides; at most one of them may be it
abbrev pub beginning : (largest offset address : ℕ) → Option ℕ
beginning largest offset address =
    if may_begin largest offset 4096 address then Some (page_at 4096 address)
    else if may_begin largest offset 16384 address then Some (page_at 16384 address)
    else if may_begin largest offset 65536 address then Some (page_at 65536 address) else None

-- where a mapping begins whose offset isn't known: it is where the pages of all sizes begin with the same address
abbrev pub only_beginning : (largest address : ℕ) → Option ℕ
only_beginning largest address = if nat_lt 1 largest && nat_eq (page_at largest address) (page_at 4096 address) then Some (page_at 4096 address) else None

-- code that GNU ld and lld link at 0x18351, its pages of 64 KiB at most
worked_4 : beginning 65536 0x8000 0x18351 ≡ Some 0x18000
worked_4 = refl

worked_64 : beginning 65536 0 0x18351 ≡ Some 0x10000
worked_64 = refl

worked_16 : beginning 65536 0x14000 0x36351 ≡ Some 0x34000
worked_16 = refl

-- no page of the code begins there
worked_other : beginning 65536 0x9000 0x18351 ≡ None
worked_other = refl

worked_unknown : only_beginning 65536 0x18351 ≡ None
worked_unknown = refl

worked_only : only_beginning 65536 0x20351 ≡ Some 0x20000
worked_only = refl

worked_small : only_beginning 4096 0x18351 ≡ Some 0x18000
worked_small = refl

-- 2 MiB, as GNU ld of years before aligns; 16 KiB; and of an alignment that no page divides
worked_largest : largest_page 0x200000 ≡ 65536
worked_largest = refl

worked_middle : largest_page 0x4000 ≡ 16384
worked_middle = refl

worked_none : largest_page 8 ≡ 1
worked_none = refl
