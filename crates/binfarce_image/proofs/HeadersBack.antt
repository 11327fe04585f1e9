-- The section headers of an image's file say of each part where it is and what it is.
use Rattle.std.proofs.Common.{◌≡◌, ℕ, ◌+◌, ◌*◌, ◌^◌, ◌<◌, List, [], ◌∷◌, ◌++◌, length, replicate, map, refl, sym, ap, ◌∙◌, append_assoc, arith}
use Rattle.std.specs.List.{range_with_len, AllByRecursion}
use Rattle.std.proofs.lemmas.List.{length-append, length-replicate}
use Rattle.binfarce.specs.declared.ByteOrder.{ByteOrder}
use Rattle.binfarce.specs.Field.{Field, value_at}
use Rattle.binfarce.specs.Elf.{ElfClass, Section, section_at}
use Rattle.binfarce_image.specs.declared.image.ElfLayout.{ElfLayout}
use Rattle.binfarce_image.specs.declared.image.Part.{Part}
use Rattle.binfarce_image.specs.declared.image.Part.TheVariants.{Bytes, Table}
use Rattle.binfarce_image.specs.Image.{class_of, order_of, bodies_end, body_length, entry_length, name_offset, part_kind, part_link, section_numbers, section_bytes, section_headers}
use Rattle.binfarce_image.specs.ImageSymbols.{PartFits}
use Rattle.binfarce_image.proofs.Lengths.{lengths, section_fits, length-section_bytes, bodies_end_above}
use Rattle.binfarce_image.proofs.Fields.{IsPut, field_back}
use Rattle.binfarce_image.proofs.Classes.{SectionPut, is_class}

-- the section that a part is, whose body begins at this place
abbrev pub section_of_part : ElfClass → ℕ → ℕ → Part → Section
section_of_part class place index part = record {
  index = index;
  name_offset = name_offset part;
  kind = part_kind part;
  flags = 0;
  address = 0;
  link = part_link part;
  offset = place;
  size = body_length class part;
  entry_size = entry_length class part;
}

-- the sections that parts are, in order, the first of this index
abbrev pub sections_from : ElfClass → ℕ → ℕ → List Part → List Section
sections_from class place index [] = []
sections_from class place index (part ∷ parts) = section_of_part class place index part ∷ sections_from class (place + body_length class part) (index + 1) parts

next_start : (shoff i size : ℕ) → shoff + i * size + size ≡ shoff + (i + 1) * size
next_start shoff i size = grind arith

module _ (layout : ElfLayout) where
  abbrev class : ElfClass
  class = class_of layout

  abbrev order : ByteOrder
  order = order_of layout

  -- the numbers of a section header are below 2^32
  record NumbersFit (place : ℕ) (part : Part) : Type 0 where
    pub name : name_offset part < 2 ^ 32
    pub kind : part_kind part < 2 ^ 32
    pub link : part_link part < 2 ^ 32
    pub offset : place < 2 ^ 32
    pub size : body_length class part < 2 ^ 32
    pub entry_size : entry_length class part < 2 ^ 32

  numbers_fit : (place : ℕ) (part : Part) → PartFits part → place + body_length class part < 2 ^ 32 → NumbersFit place part
  numbers_fit place (Bytes name kind link bytes) fits room =
      record { name = fits.0; kind = fits.1; link = fits.2; offset = omega arith; size = omega arith; entry_size = omega arith }
  numbers_fit place (Table name link rows) fits room =
      record { name = fits.0; kind = omega arith; link = fits.1; offset = omega arith; size = omega arith; entry_size = omega (arith, (lengths layout).symbol) }

  -- one field of one header
  field_of_section : (front behind : List ℕ) (start place : ℕ) (part : Part) (f : Field) (n : ℕ) → length front ≡ start → n < 2 ^ 32
      → IsPut class.section_length f (section_numbers class place part) n (2 ^ 32) → value_at order (front ++ (section_bytes class order place part ++ behind)) start f ≡ n
  unfolding section_bytes
  field_of_section front behind start place part f n at small put =
      field_back order front (replicate class.section_length 0) behind f (section_numbers class place part) start class.section_length n (2 ^ 32) at (length-replicate class.section_length 0) (section_fits layout place part) small put

  -- one header
  section_back : (front behind : List ℕ) (start place index : ℕ) (part : Part) → NumbersFit place part → length front ≡ start
      → section_at class order (front ++ (section_bytes class order place part ++ behind)) start index ≡ section_of_part class place index part
  unfolding section_at
  section_back front behind start place index part fit at =
      let put : SectionPut class place part = (is_class layout).section_put place part in
      same_section
      (field_of_section front behind start place part class.section.name (name_offset part) at fit.name put.name)
      (field_of_section front behind start place part class.section.kind (part_kind part) at fit.kind put.kind)
      (field_of_section front behind start place part class.section.flags 0 at (omega arith) put.flags)
      (field_of_section front behind start place part class.section.addr 0 at (omega arith) put.addr)
      (field_of_section front behind start place part class.section.link (part_link part) at fit.link put.link)
      (field_of_section front behind start place part class.section.offset place at fit.offset put.offset)
      (field_of_section front behind start place part class.section.size (body_length class part) at fit.size put.size)
      (field_of_section front behind start place part class.section.entry_size (entry_length class part) at fit.entry_size put.entry_size)
    where
      same_section : {index a b x c d e f g a' b' x' c' d' e' f' g' : ℕ} → a ≡ a' → b ≡ b' → x ≡ x' → c ≡ c' → d ≡ d' → e ≡ e' → f ≡ f' → g ≡ g'
          → Path Section (record { index = index; name_offset = a; kind = b; flags = x; address = c; link = d; offset = e; size = f; entry_size = g }) (record { index = index; name_offset = a'; kind = b'; flags = x'; address = c'; link = d'; offset = e'; size = f'; entry_size = g' })
      same_section p q o r s t u v = cc

  -- the headers that are found from this index on are those of the parts
  pub headers_back : (file front : List ℕ) (shoff place i : ℕ) (parts : List Part) → file ≡ front ++ section_headers class order place parts → length front ≡ shoff + i * class.section_length
      → AllByRecursion PartFits parts → bodies_end class place parts < 2 ^ 32
      → map (λ k. section_at class order file (shoff + k * class.section_length) k) (range_with_len i (length parts)) ≡ sections_from class place i parts
  headers_back file front shoff place i [] split_is at fits room = refl
  headers_back file front shoff place i (part ∷ parts) split_is at fits room =
      let start = shoff + i * class.section_length in
      let header = section_bytes class order place part in
      let next = place + body_length class part in
      let rest = section_headers class order next parts in
      let fit = numbers_fit place part fits.0 (omega (arith, bodies_end_above class next parts)) in
      let here : section_at class order file start i ≡ section_of_part class place i part =
      ap (λ (bytes : List ℕ). section_at class order bytes start i) split_is ∙ section_back front rest start place i part fit at in
      let further : length (front ++ header) ≡ shoff + (i + 1) * class.section_length =
      length-append front header ∙ ap (λ (n : ℕ). n + length header) at ∙ ap (λ (n : ℕ). start + n) (length-section_bytes layout order place part) ∙ next_start shoff i class.section_length in
      let others = headers_back file (front ++ header) shoff next (i + 1) parts (split_is ∙ sym (append_assoc front header rest)) further fits.1 room in
      ap (λ (s : Section). s ∷ map (λ k. section_at class order file (shoff + k * class.section_length) k) (range_with_len (i + 1) (length parts))) here
      ∙ ap (λ (xs : List Section). section_of_part class place i part ∷ xs) others
