-- The steps of the reading of the tables.
use Rattle.std.proofs.Common.{◌≡◌, ℕ, zero, suc, ◌+◌, ◌*◌, ◌≤◌, ◌<◌, ◌^◌, Bool, true, false, cond, List, codes, Result, Ok, Err, refl, ap, ◌∙◌, arith}
use Rattle.std.proofs.lemmas.Bool.{le-leb, lt-leb, ne_eqb}
use Rattle.binfarce_bytes.specs.Refusal.{Refusal, malformed_input, section_is_missing, unexpected_eof}
use Rattle.binfarce_bytes.specs.declared.ByteOrder.{ByteOrder}
use Rattle.binfarce_elf.specs.Classes.{class_of}
use Rattle.binfarce_elf.specs.Elf.{ElfClass, Section, header_of, walk}
use Rattle.binfarce_elf.specs.ElfSymbols.{whole_rows}
use Rattle.binfarce_elf.specs.declared.class.Width.{Width}
use Rattle.binfarce_elf_memory.specs.ElfParts.{headers_alone}
use Rattle.binfarce_tables.specs.Readings.{◌>>=◌, Reading, answered, part_reading}
use Rattle.binfarce_needs.specs.Needs.{NeedTables, need_sections}
use Rattle.binfarce_needs.specs.NeedsReading.{headers_reading, section_reading, tables_reading}

-- section headers where a header states them
pub stated : (width : Width) (order o : ByteOrder) (bytes head : List ℕ) (s n : ℕ) → bytes ≡ head → o ≡ order → s ≡ (header_of (class_of width) order bytes).shoff → n ≡ (header_of (class_of width) order bytes).shnum
    → headers_reading width o s n ≡ headers_reading width order (header_of (class_of width) order head).shoff (header_of (class_of width) order head).shnum
stated width order o bytes head s n same is begins counts =
    ap (λ (o : ByteOrder). headers_reading width o s n) is
    ∙ ap (λ (s : ℕ). headers_reading width order s n) begins
    ∙ ap (λ (n : ℕ). headers_reading width order (header_of (class_of width) order bytes).shoff n) counts
    ∙ ap (λ (b : List ℕ). headers_reading width order (header_of (class_of width) order b).shoff (header_of (class_of width) order b).shnum) same

-- a file without section headers
pub no_headers : (width : Width) (order : ByteOrder) (shoff n : ℕ) → n ≡ 0 → answered (Err (section_is_missing (codes ".symtab"))) ≡ headers_reading width order shoff n
unfolding headers_reading
no_headers width order shoff zero none = refl
no_headers width order shoff (suc n) none = absurd (omega arith)

abbrev pub headers_then : (width : Width) (order : ByteOrder) (n : ℕ) (headers : List ℕ) → Reading NeedTables
headers_then width order n headers = answered (need_sections (walk (class_of width) (headers_alone order headers n))) >>= tables_reading width

-- and with them
pub some_headers : (width : Width) (order : ByteOrder) (shoff n : ℕ) → (n ≡ 0 → ⊥) → (part_reading shoff (n * (class_of width).section_length) >>= headers_then width order n) ≡ headers_reading width order shoff n
unfolding headers_reading
some_headers width order shoff n some = rw (ne_eqb n 0 some) refl

-- none of the rows is truncated
rows_by : (whole : Bool) (bytes rows : List ℕ) → Path (Result (List ℕ) Refusal) (cond whole (Ok bytes) (Err unexpected_eof)) (Ok rows) → Path (Result (List ℕ) Refusal) (cond whole (Ok bytes) (Err unexpected_eof)) (Ok bytes)
rows_by true bytes rows is = refl
rows_by false bytes rows is = let never : Path (Result (List ℕ) Refusal) (Err unexpected_eof) (Ok rows) = is in absurd cc

pub rows_whole : (class : ElfClass) (bytes rows : List ℕ) → whole_rows class bytes ≡ Ok rows → whole_rows class bytes ≡ Ok bytes
rows_whole class bytes rows is = rows_by _ bytes rows is

-- a section whose end is no number of 64 bits
pub too_long : (s : Section) → 2 ^ 64 ≤ s.offset + s.size → answered (Err malformed_input) ≡ section_reading s
unfolding section_reading
too_long s past = rw (le-leb (2 ^ 64) (s.offset + s.size) past) refl

-- and another one
pub short : (s : Section) (offset size : ℕ) → offset ≡ s.offset → size ≡ s.size → s.offset + s.size < 2 ^ 64 → part_reading offset size ≡ section_reading s
unfolding section_reading
short s offset size begins long below =
    ap (λ (o : ℕ). part_reading o size) begins ∙ ap (λ (n : ℕ). part_reading s.offset n) long ∙ rw (lt-leb (2 ^ 64) (s.offset + s.size) below) refl
