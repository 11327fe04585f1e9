-- The walk over an image's file goes over the sections that its parts are, to the end.
use Rattle.std.proofs.Common.{◌≡◌, ℕ, ◌+◌, ◌-◌, ◌*◌, ◌/◌, ◌^◌, ◌<◌, ◌≤◌, Bool, true, false, not, cond, leb, ltb, eqb, List, ◌++◌, [], length, replicate, map, min, Some, None, refl, sym, ap, ◌∙◌, append_assoc, arith}
use Rattle.std.specs.List.{range_with_len, AllByRecursion, AllZip, enumerate_from, flat_map, list_any, count_by}
use Rattle.std.specs.Option.{is_none}
use Rattle.std.proofs.lemmas.Bool.{and_parts, ltb-false, leb-false, lt-ltb, le-leb, eqb-true, not-true}
use Rattle.std.proofs.lemmas.List.{length-append}
use Rattle.std.proofs.lemmas.Nat.{div-mul-add}
use Rattle.std.proofs.lemmas.List.Sums.{count_by-le-length}
use Rattle.binfarce.specs.declared.ByteOrder.{ByteOrder}
use Rattle.binfarce.specs.Field.{Field, value_at}
use Rattle.binfarce.specs.Elf.{ElfClass, SectionTable, section_table, header_of, section_of, whole_headers, walk}
use Rattle.binfarce_image.specs.declared.image.ElfLayout.{ElfLayout}
use Rattle.binfarce_image.specs.declared.image.Image.{Image}
use Rattle.binfarce_image.specs.declared.image.ImageError.TheVariants.{TooManySections, TableCount, NamesPlace, TooLarge}
use Rattle.binfarce_image.specs.declared.image.Part.{Part}
use Rattle.binfarce_image.specs.Image.{bytes, body, bodies_end, class_of, order_of, header_bytes, header_numbers, identification, section_headers}
use Rattle.binfarce_image.specs.ImageRefusal.{refusal_due, has_one_table, is_table, claims_table, names_of}
use Rattle.binfarce_image.specs.ImageSymbols.{PartFits}
use Rattle.binfarce_image.proofs.Lengths.{header_fits, length-blank, length-header_bytes, length-bodies, length-bytes}
use Rattle.binfarce_image.proofs.Fields.{IsPut, field_back}
use Rattle.binfarce_image.proofs.Classes.{HeaderPut, is_class}
use Rattle.binfarce_image.proofs.HeadersBack.{sections_from, headers_back}
use Rattle.binfarce_image.proofs.BodiesBack.{IsSectionOf, bodies_back}

-- no refusal is due for the image
pub record LaysOut (image : Image) (layout : ElfLayout) : Type 0 where
  pub few : length image.parts.items ≤ 65535
  pub tables : count_by is_table image.parts.items ≡ 1
  pub unclaimed : list_any claims_table image.parts.items ≡ false
  pub named : is_none (names_of image) ≡ false
  pub small : length (bytes image layout) < 2 ^ 32

due_none : (a b c d : Bool) → cond a (Some TooManySections) (cond (not b) (Some TableCount) (cond c (Some NamesPlace) (cond d (Some TooLarge) None))) ≡ None → (a ≡ false) × (b ≡ true) × (c ≡ false) × (d ≡ false)
due_none true b c d e = absurd cc
due_none false false c d e = absurd cc
due_none false true true d e = absurd cc
due_none false true false true e = absurd cc
due_none false true false false e = (refl, refl, refl, refl)

pub lays_out : (image : Image) (layout : ElfLayout) → refusal_due image layout ≡ None → LaysOut image layout
unfolding refusal_due
lays_out image layout due =
    let parts = image.parts.items in
    let d = due_none (ltb 65535 (length parts)) (has_one_table parts) (is_none (names_of image)) (leb (2 ^ 32) (length (bytes image layout))) due in
    let one = and_parts (eqb (count_by is_table parts) 1) (not (list_any claims_table parts)) d.1 in
    record {
      few = ltb-false 65535 (length parts) d.0;
      tables = eqb-true (count_by is_table parts) 1 one.0;
      unclaimed = not-true (list_any claims_table parts) one.1;
      named = d.2;
      small = leb-false (2 ^ 32) (length (bytes image layout)) d.3;
    }

-- a file that ends with so many headers has room for so many
whole_is : (len shoff n size : ℕ) → 0 < size → len ≡ shoff + size * n → (len - shoff) / size ≡ n
whole_is len shoff n size some long =
    let turned : size * n ≡ n * size = grind arith in
    let rest : len - shoff ≡ n * size + 0 = omega arith in
    ap (λ (m : ℕ). m / size) rest ∙ div-mul-add n size 0 some

walk_sections : (class : ElfClass) (table : SectionTable) (n : ℕ) → table.shnum ≡ n → whole_headers class table ≡ n → (walk class table).items ≡ map (section_of class table) (range_with_len 0 n)
unfolding walk
walk_sections class table n count whole =
    let least : min table.shnum (whole_headers class table) ≡ n = omega arith in
    ap (λ (m : ℕ). map (section_of class table) (range_with_len 0 m)) least

walk_refusal : (class : ElfClass) (table : SectionTable) (n : ℕ) → table.shnum ≡ n → whole_headers class table ≡ n → table.shoff < length table.file → (walk class table).refusal ≡ None
unfolding walk
walk_refusal class table n count whole inside =
    let room : table.shnum ≤ whole_headers class table = omega arith in
    rw (lt-ltb table.shoff (length table.file) inside, le-leb table.shnum (whole_headers class table) room) refl

-- what the file's header says of the section headers
abbrev pub table_of : Image → ElfLayout → SectionTable
table_of image layout = record {
  order = order_of layout;
  file = bytes image layout;
  shoff = bodies_end (class_of layout) (class_of layout).header_length image.parts.items;
  shnum = length image.parts.items;
  shstrndx = image.names_at;
}

module _ (image : Image) (layout : ElfLayout) where
  abbrev class : ElfClass
  class = class_of layout

  abbrev order : ByteOrder
  order = order_of layout

  abbrev parts : List Part
  parts = image.parts.items

  abbrev shoff : ℕ
  shoff = bodies_end class class.header_length parts

  abbrev bodies : List ℕ
  bodies = flat_map (body class order) parts

  abbrev headers : List ℕ
  headers = section_headers class order class.header_length parts

  bytes_is : bytes image layout ≡ header_bytes layout image ++ (bodies ++ headers)
  unfolding bytes
  bytes_is = refl

  -- one field of the header
  field_of_header : (f : Field) (n bound : ℕ) → n < bound → IsPut class.header_length f (header_numbers class image) n bound → value_at order (bytes image layout) 0 f ≡ n
  unfolding header_bytes
  field_of_header f n bound small put =
      ap (λ (file : List ℕ). value_at order file 0 f) bytes_is
      ∙ field_back order [] (identification layout ++ replicate (class.header_length - 16) 0) (bodies ++ headers) f (header_numbers class image) 0 class.header_length n bound refl (length-blank layout) (header_fits layout image) small put

  -- the header of the file says where the section headers are
  pub table_back : LaysOut image layout → image.names_at < length parts → section_table class (record { order = order; bytes = bytes image layout }) ≡ table_of image layout
  unfolding section_table header_of
  table_back due there =
      let put : HeaderPut class image = (is_class layout).header_put image in
      let below : shoff < 2 ^ 32 = omega (arith, length-bytes image layout, due.small) in
      same_table
      (field_of_header class.header.shoff shoff (2 ^ 32) below put.shoff)
      (field_of_header class.header.shnum (length parts) (2 ^ 16) (omega (arith, due.few)) put.shnum)
      (field_of_header class.header.shstrndx image.names_at (2 ^ 16) (omega (arith, due.few)) put.shstrndx)
    where
      same_table : {order : ByteOrder} {file : List ℕ} {a b c a' b' c' : ℕ} → a ≡ a' → b ≡ b' → c ≡ c'
          → Path SectionTable (record { order = order; file = file; shoff = a; shnum = b; shstrndx = c }) (record { order = order; file = file; shoff = a'; shnum = b'; shstrndx = c' })
      same_table p q r = cc

  -- the file has room for as many section headers as it has parts
  pub whole_back : whole_headers class (table_of image layout) ≡ length parts
  whole_back = whole_is (length (bytes image layout)) shoff (length parts) class.section_length (is_class layout).section_some (length-bytes image layout)

  -- the section headers are those of the parts
  pub sections_back : LaysOut image layout → AllByRecursion PartFits parts → map (section_of class (table_of image layout)) (range_with_len 0 (length parts)) ≡ sections_from class class.header_length 0 parts
  sections_back due fits =
      let front = header_bytes layout image ++ bodies in
      let split_is : bytes image layout ≡ front ++ headers = bytes_is ∙ sym (append_assoc (header_bytes layout image) bodies headers) in
      let at : length front ≡ shoff + 0 * class.section_length =
      omega (arith, length-append (header_bytes layout image) bodies, length-header_bytes layout image, length-bodies layout order class.header_length parts) in
      let below : shoff < 2 ^ 32 = omega (arith, length-bytes image layout, due.small) in
      headers_back layout (bytes image layout) front shoff class.header_length 0 parts split_is at fits below

  -- and each says where its part is
  pub parts_back : LaysOut image layout → AllByRecursion PartFits parts → AllZip (IsSectionOf class order (bytes image layout)) (sections_from class class.header_length 0 parts) (enumerate_from 0 parts)
  parts_back due fits = bodies_back layout (bytes image layout) (header_bytes layout image) headers class.header_length 0 parts bytes_is (length-header_bytes layout image) fits due.unclaimed

  -- the walk over the file
  pub walk_back : LaysOut image layout → AllByRecursion PartFits parts → (walk class (table_of image layout)).items ≡ sections_from class class.header_length 0 parts
  walk_back due fits = walk_sections class (table_of image layout) (length parts) refl whole_back ∙ sections_back due fits

  pub walk_done : LaysOut image layout → (walk class (table_of image layout)).refusal ≡ None
  walk_done due =
      let some : 0 < length parts = omega (arith, count_by-le-length is_table parts, due.tables) in
      let room : 0 < class.section_length * length parts = positive class.section_length (length parts) (is_class layout).section_some some in
      walk_refusal class (table_of image layout) (length parts) refl whole_back (omega (arith, length-bytes image layout))
    where
      positive : (n m : ℕ) → 0 < n → 0 < m → 0 < n * m
      positive n m a b = grind arith
