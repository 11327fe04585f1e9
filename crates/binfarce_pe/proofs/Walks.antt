-- The walk over the section headers of a PE file, as a loop goes over it.
use Rattle.std.proofs.Common.{◌≡◌, ℕ, ◌+◌, ◌-◌, ◌*◌, ◌/◌, ◌<◌, ◌≤◌, Bool, true, false, List, length, All, Option, Some, None, refl, sym, ap, ◌∙◌, arith, ltb, ◌&&◌, codes}
use Rattle.std.proofs.lemmas.Bool.{le-ltb, lt-ltb, le-leb, lt-leb}
use Rattle.std.proofs.lemmas.List.Elements.{All-same}
use Rattle.std.proofs.lemmas.Nat.{le-div, div_below}
use Rattle.binfarce_bytes.specs.Refusal.{◌>>=◌, required, symbols_section_is_missing, unexpected_eof}
use Rattle.binfarce_bytes.specs.Walk.{Walk, first, MayBeAsked}
use Rattle.binfarce_pe.specs.Pe.{Section, section_at, walk, is_named}
use Rattle.binfarce_pe.specs.PeParts.{SectionTable, section_table, section_in, whole_in, table_walk, text_among}
use Rattle.binfarce_pe.specs.PeSymbols.{text_section}

-- a header that can be read is one of those that the file has room for
pub is_readable : (len table start i : ℕ) → start ≡ table + i * 40 → start + 24 ≤ len → i < (len + 16 - table) / 40
is_readable len table start i at fits =
    let enough : (i + 1) * 40 ≤ len + 16 - table = omega arith in
    omega (arith, le-div (i + 1) (len + 16 - table) 40 (omega arith) enough)

-- a header that is truncated is none of them
pub is_truncated : (len table start i : ℕ) → start ≡ table + i * 40 → len < start + 24 → (len + 16 - table) / 40 ≤ i
is_truncated len table start i at short =
    let little : len + 16 - table < (i + 1) * 40 = omega arith in
    omega (arith, div_below (len + 16 - table) 40 (i + 1) (omega arith) little)

pub done_is : (table : SectionTable) → table.offset < length table.bytes → table.count ≤ whole_in table → (table_walk table).refusal ≡ None
unfolding table_walk
done_is table inside room = rw (lt-ltb table.offset (length table.bytes) inside, le-leb table.count (whole_in table) room) refl

and_false : (b : Bool) → (b && false) ≡ false
and_false true = refl
and_false false = refl

pub truncated_is : (table : SectionTable) → whole_in table < table.count → (table_walk table).refusal ≡ Some unexpected_eof
unfolding table_walk
truncated_is table short = rw (lt-leb table.count (whole_in table) short, and_false (ltb table.offset (length table.bytes))) refl

pub outside_is : (table : SectionTable) → length table.bytes ≤ table.offset → (table_walk table).refusal ≡ Some unexpected_eof
unfolding table_walk
outside_is table outside = rw (le-ltb table.offset (length table.bytes) outside) refl

-- what was read of header i is what the table has there
pub header_is : (table : SectionTable) (start i : ℕ) (found : Option Section) → start ≡ table.offset + i * 40 → found ≡ section_at table.bytes start i → section_in table i ≡ found
header_is table start i found at is = ap (λ (s : ℕ). section_at table.bytes s i) (sym at) ∙ sym is

-- the sections of a file are those of its table
pub walk_is : (file : List ℕ) → walk file ≡ table_walk (section_table file)
unfolding walk table_walk
walk_is file = refl

-- the sections of what is seen as a file's table
pub walk_of : (file : List ℕ) (table : SectionTable) → table ≡ section_table file → table_walk table ≡ walk file
walk_of file table is = ap table_walk is ∙ sym (walk_is file)

-- the text among them
pub text_of : (file : List ℕ) (table : SectionTable) → table ≡ section_table file → text_among table ≡ text_section file
text_of file table is = ap (λ (w : Walk Section). first (λ section. is_named (codes ".text") section) w >>= required symbols_section_is_missing) (walk_of file table is)

-- a callback that may be asked of the file's sections may be asked of the table's
pub asked_of : {T : Type 0} (file : List ℕ) (table : SectionTable) (seen : T → Section) (pre : T → Type 0) → table ≡ section_table file
    → All (MayBeAsked seen pre) (walk file).items → All (MayBeAsked seen pre) (table_walk table).items
asked_of file table seen pre is all = All-same (MayBeAsked seen pre) (table_walk table).items (walk file).items (ap (λ (w : Walk Section). w.items) (walk_of file table is)) all
