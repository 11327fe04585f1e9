-- The bytes and the name of each section of an image's file are those of its part.
use Rattle.std.proofs.Common.{◌≡◌, ℕ, ◌+◌, ◌^◌, ◌<◌, false, List, length, get_or, map, Option, Some, None, Ok, refl, sym, ap, subst, ◌∙◌, arith}
use Rattle.std.specs.List.{range_with_len, AllByRecursion, AllZip, enumerate_from, slice_get}
use Rattle.std.specs.Option.{option_and_then, is_none}
use Rattle.std.proofs.lemmas.Bool.{lt-ltb, le-ltb, le-leb, lt-leb}
use Rattle.std.proofs.lemmas.List.FromFn.{get_or-map-range_with_len, get_or-enumerate_from, length-map-range_with_len}
use Rattle.std.proofs.lemmas.Option.{get_or_from_slice_get}
use Rattle.binfarce.specs.declared.ByteOrder.{ByteOrder}
use Rattle.binfarce.specs.Steps.{◌>>=◌}
use Rattle.binfarce.specs.Text.{text_at}
use Rattle.binfarce.specs.Elf.{ElfClass, Section, SectionTable, section_of, whole_headers, contents, names_section, name_of}
use Rattle.binfarce.specs.ElfSymbols.{section_data}
use Rattle.binfarce.specs.Refusal.{bytes_in_file}
use Rattle.binfarce_image.specs.declared.image.ElfLayout.{ElfLayout}
use Rattle.binfarce_image.specs.declared.image.Image.{Image}
use Rattle.binfarce_image.specs.declared.image.Part.{Part}
use Rattle.binfarce_image.specs.declared.image.Part.TheVariants.{Bytes, Table}
use Rattle.binfarce_image.specs.Image.{bytes, body, body_length, class_of, order_of, name_offset}
use Rattle.binfarce_image.specs.ImageRefusal.{bytes_of, names_of}
use Rattle.binfarce_image.specs.ImageSymbols.{PartFits, name_of as part_name_of}
use Rattle.binfarce_image.proofs.BodiesBack.{IsSectionOf}
use Rattle.binfarce_image.proofs.WalkBack.{LaysOut, table_of, whole_back, sections_back, parts_back}
use Rattle.binfarce_image.proofs.Found.{both_at, index_below}

-- a section of the file is that of the numbered part
abbrev pub Holds : Image → ElfLayout → Section → ℕ × Part → Type 0
Holds image layout = IsSectionOf (class_of layout) (order_of layout) (bytes image layout)

contents_back : (class : ElfClass) (order : ByteOrder) (file : List ℕ) (section : Section) (found : ℕ × Part) → IsSectionOf class order file section found → contents file section ≡ Some (body class order found.1)
contents_back class order file section found r =
    let inside = r.inside in
    ap (contents file) r.is ∙ rw (le-leb (r.place + body_length class found.1) (length file) inside) (ap (λ (xs : List ℕ). Some xs) r.split_is)

-- the part of the file that a section is, is the body
pub part_back : (class : ElfClass) (order : ByteOrder) (file : List ℕ) (section : Section) (found : ℕ × Part) → IsSectionOf class order file section found → length file < 2 ^ 32
    → section_data file section ≡ Ok (body class order found.1)
unfolding section_data bytes_in_file
part_back class order file section found r small =
    let inside = r.inside in
    let low : r.place + body_length class found.1 < 2 ^ 64 = omega arith in
    ap (section_data file) r.is
    ∙ rw (lt-leb (2 ^ 64) (r.place + body_length class found.1) low, le-ltb (length file) (r.place + body_length class found.1) inside) (ap (λ (xs : List ℕ). Ok xs) r.split_is)

-- where the section names are
pub record NamesAt (image : Image) (part : Part) (names : List ℕ) : Type 0 where
  pub there : image.names_at < length image.parts.items
  pub at : slice_get image.parts.items image.names_at ≡ Some part
  pub holds : bytes_of part ≡ Some names
  pub are : names_of image ≡ Some names

names_by : (image : Image) (o : Option Part) → slice_get image.parts.items image.names_at ≡ o → is_none (option_and_then bytes_of o) ≡ false
    → (part : Part) × (names : List ℕ) × NamesAt image part names
names_by image None e some = absurd cc
names_by image (Some (Table name link rows)) e some = absurd cc
names_by image (Some (Bytes name kind link bytes)) e some =
    (Bytes name kind link bytes, bytes.items, record { there = index_below image.parts.items image.names_at (Bytes name kind link bytes) e; at = e; holds = refl; are = ap (option_and_then bytes_of) e })

pub names_at : (image : Image) (layout : ElfLayout) → LaysOut image layout → (part : Part) × (names : List ℕ) × NamesAt image part names
names_at image layout due = names_by image (slice_get image.parts.items image.names_at) refl due.named

body_of_names : (class : ElfClass) (order : ByteOrder) (part : Part) (names : List ℕ) → bytes_of part ≡ Some names → body class order part ≡ names
body_of_names class order (Bytes name kind link bytes) names e = cc
body_of_names class order (Table name link rows) names e = absurd cc

same_pair : (n i : ℕ) (p q : Part) → n ≡ i → p ≡ q → Path (ℕ × Part) (n, p) (i, q)
same_pair n i p q a b = cc

-- the section of this index is that of the part of this index
section_at_index : (image : Image) (layout : ElfLayout) → LaysOut image layout → AllByRecursion PartFits image.parts.items → (i : ℕ) (part : Part) → i < length image.parts.items
    → slice_get image.parts.items i ≡ Some part → Holds image layout (section_of (class_of layout) (table_of image layout) i) (i, part)
section_at_index image layout due fits i part there at =
    let class = class_of layout in
    let parts = image.parts.items in
    let f : ℕ → Section = section_of class (table_of image layout) in
    let listed = map f (range_with_len 0 (length parts)) in
    let all : AllZip (Holds image layout) listed (enumerate_from 0 parts) = subst (λ (xs : List Section). AllZip (Holds image layout) xs (enumerate_from 0 parts)) (sym (sections_back image layout due fits)) (parts_back image layout due fits) in
    let long : i < length listed = omega (arith, length-map-range_with_len f 0 (length parts)) in
    let both = both_at (Holds image layout) listed (enumerate_from 0 parts) i (f i) (i, part) all long in
    let left : get_or listed i (f i) ≡ f i = get_or-map-range_with_len f 0 (length parts) i i (f i) there (omega arith) in
    let right : get_or (enumerate_from 0 parts) i (i, part) ≡ (i, part) = get_or-enumerate_from 0 parts i (i, part) there ∙ same_pair (0 + i) i (get_or parts i part) part (omega arith) (get_or_from_slice_get parts i part part at) in
    subst (λ (q : ℕ × Part). Holds image layout (f i) q) right (subst (λ (s : Section). Holds image layout s (get_or (enumerate_from 0 parts) i (i, part))) left both)

names_section_is : (class : ElfClass) (table : SectionTable) → table.shstrndx < whole_headers class table → names_section class table ≡ Some (section_of class table table.shstrndx)
names_section_is class table there = rw (lt-ltb table.shstrndx (whole_headers class table) there) refl

named_by : (class : ElfClass) (table : SectionTable) (section s : Section) (names : List ℕ) (n : ℕ) → names_section class table ≡ Some s → contents table.file s ≡ Some names → section.name_offset ≡ n
    → name_of class table section ≡ text_at names n
unfolding name_of
named_by class table section s names n at holds offset =
    ap (λ (o : Option Section). (o >>= λ (t : Section). contents table.file t) >>= λ (strings : List ℕ). text_at strings section.name_offset) at
    ∙ ap (λ (o : Option (List ℕ)). o >>= λ (strings : List ℕ). text_at strings section.name_offset) holds
    ∙ ap (text_at names) offset

-- a section of the file has its part's name
pub name_back : (image : Image) (layout : ElfLayout) → LaysOut image layout → AllByRecursion PartFits image.parts.items → (section : Section) (found : ℕ × Part) → Holds image layout section found
    → name_of (class_of layout) (table_of image layout) section ≡ part_name_of image found.1
name_back image layout due fits section found r =
    let class = class_of layout in
    let order = order_of layout in
    let n = names_at image layout due in
    let at = n.2 in
    let names = n.1 in
    let table = table_of image layout in
    let s = section_of class table image.names_at in
    let held : Holds image layout s (image.names_at, n.0) = section_at_index image layout due fits image.names_at n.0 at.there at.at in
    let strings : contents (bytes image layout) s ≡ Some names = contents_back class order (bytes image layout) s (image.names_at, n.0) held ∙ ap (λ (xs : List ℕ). Some xs) (body_of_names class order n.0 names at.holds) in
    let there : image.names_at < whole_headers class table = omega (arith, whole_back image layout, at.there) in
    named_by class table section s names (name_offset found.1) (names_section_is class table there) strings (ap (λ (t : Section). t.name_offset) r.is)
    ∙ sym (ap (option_and_then (λ (xs : List ℕ). text_at xs (name_offset found.1))) at.are)
