-- The bytes of a section, and the section names.
use Rattle.std.proofs.Common.{◌≡◌, ℕ, ◌+◌, ◌*◌, ◌-◌, ◌/◌, ◌<◌, ◌≤◌, ◌^◌, List, length, drop, Option, Some, None, Result, Ok, Err, refl, sym, ap, ap₂, ◌∙◌, arith, inl, inr, length-drop}
use Rattle.std.proofs.Math.Nat.{div-mul-le_self}
use Rattle.std.proofs.lemmas.Bool.{cases_lt, lt-leb, le-leb, lt-ltb, le-ltb}
use Rattle.std.proofs.lemmas.List.{length-take-le}
use Rattle.binfarce_bytes.specs.Number.{bytes_at}
use Rattle.binfarce_bytes.specs.Steps.{◌>>=◌}
use Rattle.binfarce_bytes.specs.Refusal.{Refusal, malformed_input, bytes_in_file, if_as_long_as}
use Rattle.binfarce_elf.specs.Elf.{ElfClass, SectionTable, Section, section_at, section_of, whole_headers, contents, names_section, names_bytes}
use Rattle.binfarce_elf.specs.ElfSymbols.{section_data}
use Rattle.binfarce_tables.proofs.HeadersAlone.{HasWithin, section_in}

pub data_malformed : (file : List ℕ) (s : Section) → 2 ^ 64 ≤ s.offset + s.size → section_data file s ≡ Err malformed_input
unfolding section_data bytes_in_file
data_malformed file s past = rw (le-leb (2 ^ 64) (s.offset + s.size) past) refl

pub data_below : (file : List ℕ) (s : Section) → s.offset + s.size < 2 ^ 64 → section_data file s ≡ if_as_long_as (s.offset + s.size) file (Ok (bytes_at file s.offset s.size))
unfolding section_data bytes_in_file
data_below file s end = rw (lt-leb (2 ^ 64) (s.offset + s.size) end) refl

-- the bytes that were read are the contents
pub contents_read : (file bytes : List ℕ) (s : Section) (offset size : ℕ) → offset ≡ s.offset → size ≡ s.size → offset + size ≤ length file → bytes ≡ bytes_at file offset size → contents file s ≡ Some bytes
contents_read file bytes s offset size begins long inside is =
    rw (le-leb (s.offset + s.size) (length file) (omega (arith, inside, begins, long))) (ap Some (sym (is ∙ ap₂ (λ (a b : ℕ). bytes_at file a b) begins long)))

-- what was refused has no contents
pub contents_refused : (file : List ℕ) (refusal : Refusal) (s : Section) (offset size : ℕ) → offset ≡ s.offset → size ≡ s.size
    → if_as_long_as (offset + size) file (Ok (bytes_at file offset size)) ≡ Err refusal → contents file s ≡ None
contents_refused file refusal s offset size begins long read = elim (cases_lt (length file) (offset + size)) [
  | inl past ↦ rw (lt-leb (s.offset + s.size) (length file) (omega (arith, past, begins, long))) refl
  | inr inside ↦
      let is : if_as_long_as (offset + size) file (Ok (bytes_at file offset size)) ≡ Ok (bytes_at file offset size) = rw (le-ltb (length file) (offset + size) inside) refl in
      let e : Path (Result (List ℕ) Refusal) (Ok (bytes_at file offset size)) (Err refusal) = sym is ∙ read in
      absurd cc
]

-- where no header of the names is whole, there are none
pub no_names : (class : ElfClass) (table : SectionTable) → whole_headers class table ≤ table.shstrndx → names_bytes class table ≡ None
no_names class table past = rw (le-ltb table.shstrndx (whole_headers class table) past) refl

-- the end of a whole header lies in the file
header_inside : (len shoff size i : ℕ) → i < (len - shoff) / size → (shoff + i * size) + size ≤ len
header_inside len shoff size i lt =
    let all : (len - shoff) / size * size ≤ len - shoff = div-mul-le_self (len - shoff) size in
    let below : i * size + size ≤ (len - shoff) / size * size = count i ((len - shoff) / size) size lt in
    let some : 0 < len - shoff = positive (len - shoff) i size lt in
    omega arith
  where
    count : (i n size : ℕ) → i < n → i * size + size ≤ n * size
    count i n size lt = grind arith

    positive : (room i size : ℕ) → i < room / size → 0 < room
    positive room i size lt = grind arith

-- a section header that is whole, by the room that a file has for the table
pub index_below : (class : ElfClass) (table : SectionTable) (len room size : ℕ) → len ≡ length table.file → room ≡ len - table.shoff → size ≡ class.section_length → table.shstrndx < room / size
    → table.shstrndx < whole_headers class table
index_below class table len room size long left is lt =
    let whole : room / size ≡ whole_headers class table = cc in
    rw (← whole) lt

-- the section of the names, by its header alone
pub names_section_is : (class : ElfClass) (table : SectionTable) (header : List ℕ) (section : Section) → HasWithin class → table.shstrndx < whole_headers class table
    → header ≡ bytes_at table.file (table.shoff + table.shstrndx * class.section_length) class.section_length
    → section ≡ section_at class table.order header 0 table.shstrndx
    → names_section class table ≡ Some section
names_section_is class table header section within lt is at =
    let start = table.shoff + table.shstrndx * class.section_length in
    let read : section_at class table.order header 0 table.shstrndx ≡ section_at class table.order table.file (start + 0) table.shstrndx =
    ap (λ bytes. section_at class table.order bytes 0 table.shstrndx) is ∙ section_in class table.order table.file start class.section_length 0 table.shstrndx within (omega arith) in
    let same : section_of class table table.shstrndx ≡ section = ap (λ n. section_at class table.order table.file n table.shstrndx) (from_end start) ∙ sym read ∙ sym at in
    rw (lt-ltb table.shstrndx (whole_headers class table) lt) (ap Some same)
  where
    from_end : (n : ℕ) → n ≡ n + 0
    from_end n = omega arith

-- by the header that was read
pub names_section_read : (class : ElfClass) (table : SectionTable) (header : List ℕ) (section : Section) (size : ℕ) → HasWithin class → size ≡ class.section_length → table.shstrndx < whole_headers class table
    → ((table.shoff + table.shstrndx * size) + size ≤ length table.file → header ≡ bytes_at table.file (table.shoff + table.shstrndx * size) size)
    → section ≡ section_at class table.order header 0 table.shstrndx
    → names_section class table ≡ Some section
names_section_read class table header section size within is lt read at =
    let there : (table.shoff + table.shstrndx * size) + size ≤ length table.file = rw is (header_inside (length table.file) table.shoff class.section_length table.shstrndx lt) in
    names_section_is class table header section within lt (read there ∙ ap (λ (n : ℕ). bytes_at table.file (table.shoff + table.shstrndx * n) n) is) at

-- its contents are the section names
pub names_are : (class : ElfClass) (table : SectionTable) (section : Section) → names_section class table ≡ Some section → names_bytes class table ≡ contents table.file section
names_are class table section is = ap (λ (o : Option Section). o >>= contents table.file) is

-- as many bytes as lie in the file
pub part_long : (file : List ℕ) (start size : ℕ) → start + size ≤ length file → length (bytes_at file start size) ≡ size
part_long file start size inside = length-take-le size (drop start file) (rw (length-drop start file) (omega arith))
