-- The walk over the section headers alone, and where the symbols are by what is found there.
use Rattle.std.proofs.Common.{◌≡◌, ℕ, zero, suc, ◌+◌, ◌*◌, ◌-◌, ◌/◌, ◌<◌, ◌≤◌, cond, ltb, leb, ◌&&◌, List, ◌∷◌, length, take, drop, map, min, Some, None, refl, ap, ap₂, ◌∙◌, arith, inl, inr, length-drop}
use Rattle.std.proofs.Math.Bool.{and-false}
use Rattle.std.proofs.Math.Nat.{div-mul-le_self, min_comm}
use Rattle.std.proofs.lemmas.Bool.{cases_lt, lt-ltb, lt-leb, le-leb}
use Rattle.std.proofs.lemmas.List.{drop-take, drop-drop, take-take, length-take-le}
use Rattle.std.proofs.lemmas.Nat.{div-mul-add}
use Rattle.std.specs.List.{range_with_len}
use Rattle.binfarce_bytes.specs.declared.ByteOrder.{ByteOrder}
use Rattle.binfarce_bytes.specs.Field.{Field, value_at}
use Rattle.binfarce_bytes.specs.Number.{bytes_at, number}
use Rattle.binfarce_bytes.specs.Refusal.{unexpected_eof}
use Rattle.binfarce_elf.specs.Elf.{ElfClass, elf32, elf64, SectionTable, Header, header_of, section_table, section_at, section_of, walk, whole_headers}
use Rattle.binfarce_elf.specs.Classes.{class_of}
use Rattle.binfarce_elf_memory.specs.ElfParts.{IsPlaceOf, headers_alone}
use Rattle.binfarce_elf_memory.specs.ElfEnds.{file_kind}
use Rattle.binfarce_elf.specs.declared.class.Width.{Width}
use Rattle.binfarce_elf.specs.declared.class.Width.TheVariants.{Bits32, Bits64}
use Rattle.binfarce_elf_memory.specs.declared.parts.HeaderTable.{HeaderTable}
use Rattle.binfarce_elf.specs.machine.RawElf.{fields_of_header, fields_of_section}
use Rattle.binfarce_tables.specs.ElfReads.{headers_size}

pub bytes_in : (file : List ℕ) (start len k width : ℕ) → k + width ≤ len → bytes_at (bytes_at file start len) k width ≡ bytes_at file (start + k) width
bytes_in file start len k width h =
    let from : List ℕ = drop start file in
    let rest : ℕ = len - k in
    let all : len ≡ k + rest = omega arith in
    ap (λ n. take width (drop k (take n from))) all
    ∙ ap (take width) (drop-take k rest from)
    ∙ take-take width rest (drop k from) (omega arith)
    ∙ ap (take width) (drop-drop k start file)

pub turned : (a b c : ℕ) → a + (b + c) ≡ (a + b) + c
turned a b c = omega arith

-- the number of a field of a structure within a part
pub value_in : (order : ByteOrder) (file : List ℕ) (start len k : ℕ) (f : Field) → k + (f.offset + f.width) ≤ len → value_at order (bytes_at file start len) k f ≡ value_at order file (start + k) f
value_in order file start len k f h =
    ap (number order) (bytes_in file start len (k + f.offset) f.width (omega (arith, h)) ∙ ap (λ n. bytes_at file n f.width) (turned start k f.offset))

abbrev pub Within : ℕ → Field → Type 0
Within len f = f.offset + f.width ≤ len

-- the fields that are read lie within their structures
pub record HasWithin (class : ElfClass) : Type 0 where
  pub elf_type : Within class.header_length class.header.elf_type
  pub machine : Within class.header_length class.header.machine
  pub machine_flags : Within class.header_length class.header.flags
  pub phoff : Within class.header_length class.header.phoff
  pub phnum : Within class.header_length class.header.phnum
  pub shoff : Within class.header_length class.header.shoff
  pub shnum : Within class.header_length class.header.shnum
  pub shstrndx : Within class.header_length class.header.shstrndx
  pub name : Within class.section_length class.section.name
  pub kind : Within class.section_length class.section.kind
  pub flags : Within class.section_length class.section.flags
  pub addr : Within class.section_length class.section.addr
  pub link : Within class.section_length class.section.link
  pub offset : Within class.section_length class.section.offset
  pub size : Within class.section_length class.section.size
  pub entry_size : Within class.section_length class.section.entry_size

within_class : (class : ElfClass) (w : ℕ) → class.header ≡ fields_of_header w → class.header_length ≡ 40 + 3 * w → class.section ≡ fields_of_section w → class.section_length ≡ 16 + 6 * w → HasWithin class
within_class class w header_fields header_len fields len = record {
  elf_type = rw (header_fields, header_len) (omega arith);
  machine = rw (header_fields, header_len) (omega arith);
  machine_flags = rw (header_fields, header_len) (omega arith);
  phoff = rw (header_fields, header_len) (omega arith);
  phnum = rw (header_fields, header_len) (omega arith);
  shoff = rw (header_fields, header_len) (omega arith);
  shnum = rw (header_fields, header_len) (omega arith);
  shstrndx = rw (header_fields, header_len) (omega arith);
  name = rw (fields, len) (omega arith);
  kind = rw (fields, len) (omega arith);
  flags = rw (fields, len) (omega arith);
  addr = rw (fields, len) (omega arith);
  link = rw (fields, len) (omega arith);
  offset = rw (fields, len) (omega arith);
  size = rw (fields, len) (omega arith);
  entry_size = rw (fields, len) (omega arith);
}

-- so in the classes of the standard
pub within_of : (width : Width) → HasWithin (class_of width)
unfolding elf32 elf64
within_of Bits32 = within_class elf32 4 refl refl refl refl
within_of Bits64 = within_class elf64 8 refl refl refl refl

-- their section headers have some bytes
pub some_of : (width : Width) → 0 < (class_of width).section_length
unfolding elf32 elf64
some_of Bits32 = omega arith
some_of Bits64 = omega arith

-- a section header within a part
pub section_in : (class : ElfClass) (order : ByteOrder) (file : List ℕ) (start len k index : ℕ) → HasWithin class → k + class.section_length ≤ len
    → section_at class order (bytes_at file start len) k index ≡ section_at class order file (start + k) index
unfolding section_at
section_in class order file start len k index within h = cc (
  value_in order file start len k class.section.name (omega (arith, h, within.name)),
  value_in order file start len k class.section.kind (omega (arith, h, within.kind)),
  value_in order file start len k class.section.flags (omega (arith, h, within.flags)),
  value_in order file start len k class.section.addr (omega (arith, h, within.addr)),
  value_in order file start len k class.section.link (omega (arith, h, within.link)),
  value_in order file start len k class.section.offset (omega (arith, h, within.offset)),
  value_in order file start len k class.section.size (omega (arith, h, within.size)),
  value_in order file start len k class.section.entry_size (omega (arith, h, within.entry_size)),
)

-- the table at the place that the file header alone states
pub place_is : (class : ElfClass) (order : ByteOrder) (file : List ℕ) (size : ℕ) (header : Header ℕ) → HasWithin class → size ≡ class.header_length
    → header ≡ header_of class order (bytes_at file 0 size)
    → section_table class (record { order = order; bytes = file }) ≡ record { order = order; file = file; shoff = header.shoff; shnum = header.shnum; shstrndx = header.shstrndx }
unfolding header_of section_table
place_is class order file size header within is same = cc (
  same,
  value_in order file 0 size 0 class.header.shoff (omega (arith, is, within.shoff)),
  value_in order file 0 size 0 class.header.shnum (omega (arith, is, within.shnum)),
  value_in order file 0 size 0 class.header.shstrndx (omega (arith, is, within.shstrndx)),
)

-- the file's type, its machine and that machine's flags, as the file header alone states them
pub kind_is : (class : ElfClass) (order : ByteOrder) (file : List ℕ) (size : ℕ) (header : Header ℕ) → HasWithin class → size ≡ class.header_length
    → header ≡ header_of class order (bytes_at file 0 size) → file_kind header ≡ file_kind (header_of class order file)
unfolding header_of
kind_is class order file size header within is same =
    cc (
      same,
      value_in order file 0 size 0 class.header.elf_type (omega (arith, is, within.elf_type)),
      value_in order file 0 size 0 class.header.machine (omega (arith, is, within.machine)),
      value_in order file 0 size 0 class.header.flags (omega (arith, is, within.machine_flags)),
    )

-- where the program headers are, as the file header alone states it
pub programs_are : (class : ElfClass) (order : ByteOrder) (file : List ℕ) (size : ℕ) → HasWithin class → size ≡ class.header_length
    → ((header_of class order (bytes_at file 0 size)).phoff ≡ (header_of class order file).phoff) × ((header_of class order (bytes_at file 0 size)).phnum ≡ (header_of class order file).phnum)
unfolding header_of
programs_are class order file size within is =
    (value_in order file 0 size 0 class.header.phoff (omega (arith, is, within.phoff)), value_in order file 0 size 0 class.header.phnum (omega (arith, is, within.phnum)))

-- the table at the place that was read from the file header alone
pub table_is : (class : ElfClass) (order : ByteOrder) (file header : List ℕ) (place : HeaderTable) → HasWithin class → header ≡ bytes_at file 0 class.header_length → IsPlaceOf class order header place
    → section_table class (record { order = order; bytes = file }) ≡ record { order = place.byte_order; file = file; shoff = place.shoff; shnum = place.shnum; shstrndx = place.shstrndx }
table_is class order file header place within same states =
    place_is class order file class.header_length (header_of class order header) within refl (ap (λ (b : List ℕ). header_of class order b) same)
    ∙ cc (states.0, states.1, states.2, states.3)

map_same : {X : Type 0} (f g : ℕ → X) (a n : ℕ) → ((i : ℕ) → i < a + n → f i ≡ g i) → map f (range_with_len a n) ≡ map g (range_with_len a n)
map_same f g a zero agree = refl
map_same f g a (suc n) agree = ap₂ (λ x xs. x ∷ xs) (agree a (omega arith)) (map_same f g (a + 1) n (λ i lt. agree i (omega arith)))

-- so many headers as there are whole ones
whole_is : (n size : ℕ) → 0 < size → (n * size - 0) / size ≡ n
whole_is n size some =
    let same : n * size - 0 ≡ n * size + 0 = omega arith in
    ap (λ (m : ℕ). m / size) same ∙ div-mul-add n size 0 some

fits : (a b size rest : ℕ) → a ≤ b → b * size ≤ rest → a * size ≤ rest
fits a b size rest le h = grind arith

-- the section headers that are whole and below the count
abbrev pub headers_of : ElfClass → SectionTable → List ℕ
headers_of class table = bytes_at table.file table.shoff (headers_size class table)

-- how many bytes are read of them
pub headers_read : (class : ElfClass) (table : SectionTable) (len count size room : ℕ) → len ≡ length table.file → size ≡ class.section_length → room ≡ len - table.shoff
    → count ≡ min (room / size) table.shnum → table.shoff ≤ len → (count * size ≡ headers_size class table) × (table.shoff + count * size ≤ length table.file)
headers_read class table len count size room all is left least begun =
    let whole : room / size ≡ whole_headers class table = cc in
    let same : count * size ≡ headers_size class table = ap₂ (λ (m n : ℕ). m * n) (least ∙ min_comm (room / size) table.shnum ∙ ap (min table.shnum) whole) is in
    let inside : count * size ≤ room = fits count (room / size) size room (omega (arith, least)) (div-mul-le_self room size) in
    (same, omega (arith, inside, all, left, begun))

pub headers_long : (class : ElfClass) (table : SectionTable) → length (headers_of class table) ≡ min table.shnum (whole_headers class table) * class.section_length
headers_long class table =
    let whole = whole_headers class table in
    let room : length (drop table.shoff table.file) ≡ length table.file - table.shoff = length-drop table.shoff table.file in
    let inside : min table.shnum whole * class.section_length ≤ length table.file - table.shoff =
    fits (min table.shnum whole) whole class.section_length (length table.file - table.shoff) (omega arith) (div-mul-le_self (length table.file - table.shoff) class.section_length) in
    length-take-le (min table.shnum whole * class.section_length) (drop table.shoff table.file) (rw room inside)

-- the refusal of a walk over as many headers as are whole
refusal_same : (count whole alone len start size : ℕ) → start < size → alone ≡ min count whole → (0 < alone → 0 < len) → 0 < count
    → cond (ltb 0 len && leb count alone) None (Some unexpected_eof) ≡ cond (ltb start size && leb count whole) None (Some unexpected_eof)
refusal_same count whole alone len start size inside least some any = elim (cases_lt whole count) [
  | inl cut ↦ rw (lt-leb count alone (omega (arith, least)), lt-leb count whole cut, and-false (ltb 0 len), and-false (ltb start size)) refl
  | inr room ↦ rw (lt-ltb 0 len (some (omega (arith, least))), le-leb count alone (omega (arith, least)), lt-ltb start size inside, le-leb count whole room) refl
]

positive : (n size : ℕ) → 0 < size → 0 < n → 0 < n * size
positive n size a b = grind arith

module _ (class : ElfClass) (table : SectionTable) (within : HasWithin class) (some : 0 < class.section_length) where
  abbrev below : ℕ
  below = min table.shnum (whole_headers class table)

  abbrev alone : SectionTable
  alone = headers_alone table.order (headers_of class table) table.shnum

  whole_alone : whole_headers class alone ≡ below
  whole_alone = ap (λ len. (len - 0) / class.section_length) (headers_long class table) ∙ whole_is below class.section_length some

  same_header : (i : ℕ) → i < below → section_of class alone i ≡ section_of class table i
  same_header i lt =
      let inside : i * class.section_length + class.section_length ≤ below * class.section_length = within_count i below class.section_length lt in
      ap (λ k. section_at class table.order (headers_of class table) k i) (from_start (i * class.section_length))
      ∙ section_in class table.order table.file table.shoff (below * class.section_length) (i * class.section_length) i within inside
    where
      from_start : (n : ℕ) → 0 + n ≡ n
      from_start n = omega arith

      within_count : (i n size : ℕ) → i < n → i * size + size ≤ n * size
      within_count i n size lt = grind arith

  -- the walk over the section headers alone is the file's
  pub headers_walk : table.shoff < length table.file → 0 < table.shnum → walk class alone ≡ walk class table
  unfolding walk
  headers_walk inside any =
      let items : map (section_of class alone) (range_with_len 0 (min table.shnum (whole_headers class alone))) ≡ map (section_of class table) (range_with_len 0 below) =
      ap (λ (m : ℕ). map (section_of class alone) (range_with_len 0 m)) (least table.shnum (whole_headers class table) (whole_headers class alone) whole_alone)
      ∙ map_same (section_of class alone) (section_of class table) 0 below (λ i lt. same_header i (omega arith)) in
      let long : 0 < whole_headers class alone → 0 < length (headers_of class table) =
      λ h. rw (headers_long class table) (positive below class.section_length some (rw (← whole_alone) h)) in
      ap₂ (λ xs end. record { items = xs; refusal = end }) items
      (refusal_same table.shnum (whole_headers class table) (whole_headers class alone) (length (headers_of class table)) table.shoff (length table.file) inside whole_alone long any)
    where
      least : (a b c : ℕ) → c ≡ min a b → min a c ≡ min a b
      least a b c e = omega arith
