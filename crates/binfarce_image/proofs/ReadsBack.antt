-- The law of layouts: an image reads back from its file in each layout.
use Rattle.std.proofs.Common.{◌≡◌, ℕ, Bool, true, false, eqb, List, codes, Option, Some, None, Result, refl, sym, ap, ◌∙◌, arith}
use Rattle.std.specs.Prelude.{find}
use Rattle.std.specs.List.{AllByRecursion, enumerate_from, slice_get}
use Rattle.std.specs.Option.{option_map}
use Rattle.std.specs.Global.{Vec}
use Rattle.binfarce.specs.Refusal.{Refusal, ◌>>=◌, required, symbols_section_is_missing, section_is_missing}
use Rattle.binfarce.specs.Walk.{Walk, found_or_end}
use Rattle.binfarce.specs.Elf.{ElfClass, Section, SectionTable, walk, name_of}
use Rattle.binfarce.specs.ElfSymbols.{sought, is_named, elf_answer}
use Rattle.binfarce.specs.Symbol.{Listed}
use Rattle.binfarce_image.specs.declared.image.ElfLayout.{ElfLayout}
use Rattle.binfarce_image.specs.declared.image.Image.{Image}
use Rattle.binfarce_image.specs.declared.image.Part.{Part}
use Rattle.binfarce_image.specs.declared.image.Part.TheVariants.{Bytes, Table}
use Rattle.binfarce_image.specs.declared.image.Row.{Row}
use Rattle.binfarce_image.specs.Image.{class_of, part_kind, part_link}
use Rattle.binfarce_image.specs.ImageRefusal.{is_table, claims_table}
use Rattle.binfarce_image.specs.ImageSymbols.{PartFits, IsNotTable, LayoutsAgree, name_of as part_name_of, part_named, symbols_of}
use Rattle.binfarce_image.proofs.HeadersBack.{sections_from}
use Rattle.binfarce_image.proofs.WalkBack.{LaysOut, lays_out, table_of, table_back, parts_back, walk_back, walk_done}
use Rattle.binfarce_image.proofs.PartsBack.{Holds, name_back, names_at}
use Rattle.binfarce_image.proofs.AnswerBack.{listed_with, answer_with, answer_back}
use Rattle.binfarce_image.proofs.Found.{BothOrNone, find_both, find_index, find_numbered, found_passes}

-- a search in a walk that is done
sought_is : (missing : Refusal) (accepts : Section → Bool) (w : Walk Section) (sections : List Section) (o : Option Section) → w.items ≡ sections → w.refusal ≡ None → find accepts sections ≡ o
    → sought missing accepts w ≡ required missing o
sought_is missing accepts w sections o same done found =
    ap (λ (xs : List Section). found_or_end (find accepts xs) w.refusal >>= required missing) same
    ∙ ap (λ (end : Option Refusal). found_or_end (find accepts sections) end >>= required missing) done
    ∙ ap (λ (p : Option Section). found_or_end p None >>= required missing) found
    ∙ ends o
  where
    ends : (p : Option Section) → (found_or_end p None >>= required missing) ≡ required missing p
    ends None = refl
    ends (Some s) = refl

-- a section is of the table's kind where its part is the table
kind_agrees : (part : Part) → claims_table part ≡ false → eqb (part_kind part) 2 ≡ is_table part
kind_agrees (Bytes name kind link body) unclaimed = unclaimed
kind_agrees (Table name link rows) unclaimed = refl

module _ (image : Image) (layout : ElfLayout) (due : LaysOut image layout) (fits : AllByRecursion PartFits image.parts.items) where
  abbrev class : ElfClass
  class = class_of layout

  abbrev table : SectionTable
  table = table_of image layout

  abbrev sections : List Section
  sections = sections_from class class.header_length 0 image.parts.items

  abbrev numbered : List (ℕ × Part)
  numbered = enumerate_from 0 image.parts.items

  -- a search in the file's walk
  sought_in_file : (missing : Refusal) (accepts : Section → Bool) (o : Option Section) → find accepts sections ≡ o → sought missing accepts (walk class table) ≡ required missing o
  sought_in_file missing accepts o found = sought_is missing accepts (walk class table) sections o (walk_back image layout due fits) (walk_done image layout due) found

  -- tests that agree find a part and its section
  both : (f : Section → Bool) (g : ℕ × Part → Bool) → ((s : Section) (q : ℕ × Part) → Holds image layout s q → f s ≡ g q) → BothOrNone (Holds image layout) (find f sections) (find g numbered)
  both f g agree = find_both (Holds image layout) f g agree sections numbered (parts_back image layout due fits)

  -- the image's searches are over the same numbered parts
  table_part : find is_table image.parts.items ≡ option_map (λ (q : ℕ × Part). q.1) (find (λ (q : ℕ × Part). is_table q.1) numbered)
  table_part = find_numbered is_table 0 image.parts.items

  linked_part : (link : ℕ) → slice_get image.parts.items link ≡ option_map (λ (q : ℕ × Part). q.1) (find (λ (q : ℕ × Part). eqb q.0 link) numbered)
  linked_part link = find_index 0 link link image.parts.items (omega arith)

  -- what the reader goes on with
  abbrev listed_from : Section → Section → Result Listed Refusal
  listed_from text symbols = sought (section_is_missing (codes ".strtab")) (λ (s : Section). eqb s.index symbols.link) (walk class table) >>= λ (linked : Section). listed_with class table text symbols linked

  abbrev listed_for : Section → Result Listed Refusal
  listed_for text = sought (section_is_missing (codes ".symtab")) (λ (s : Section). eqb s.kind 2) (walk class table) >>= λ (symbols : Section). listed_from text symbols

  -- and the image
  abbrev answer_from : ℕ × Part → Part → Result Listed Refusal
  answer_from found part = required (section_is_missing (codes ".strtab")) (slice_get image.parts.items (part_link part)) >>= λ (linked : Part). answer_with found part linked

  abbrev answer_for : ℕ × Part → Result Listed Refusal
  answer_for found = required (section_is_missing (codes ".symtab")) (find is_table image.parts.items) >>= λ (part : Part). answer_from found part

  linked_by : (text symbols : Section) (found : ℕ × Part) (j name link : ℕ) (rows : Vec Row) (o : Option Section) (p : Option (ℕ × Part))
      → find (λ (s : Section). eqb s.index symbols.link) sections ≡ o → find (λ (q : ℕ × Part). eqb q.0 link) numbered ≡ p → BothOrNone (Holds image layout) o p
      → Holds image layout text found → is_table found.1 ≡ false → Holds image layout symbols (j, Table name link rows)
      → listed_from text symbols ≡ answer_from found (Table name link rows)
  linked_by text symbols found j name link rows o p e f r t other s =
      let part : slice_get image.parts.items link ≡ option_map (λ (q : ℕ × Part). q.1) p = linked_part link ∙ ap (option_map (λ (q : ℕ × Part). q.1)) f in
      ap (λ (x : Result Section Refusal). x >>= λ (linked : Section). listed_with class table text symbols linked) (sought_in_file (section_is_missing (codes ".strtab")) (λ (s : Section). eqb s.index symbols.link) o e)
      ∙ ends o p r
      ∙ sym (ap (λ (x : Option Part). required (section_is_missing (codes ".strtab")) x >>= λ (linked : Part). answer_with found (Table name link rows) linked) part)
    where
      ends : (o : Option Section) (p : Option (ℕ × Part)) → BothOrNone (Holds image layout) o p
          → (required (section_is_missing (codes ".strtab")) o >>= λ (linked : Section). listed_with class table text symbols linked)
          ≡ (required (section_is_missing (codes ".strtab")) (option_map (λ (q : ℕ × Part). q.1) p) >>= λ (linked : Part). answer_with found (Table name link rows) linked)
      ends None None r = refl
      ends None (Some q) r = absurd r
      ends (Some linked) None r = absurd r
      ends (Some linked) (Some q) r = answer_back image layout due.small text symbols found j name link rows linked q.0 q.1 t other s r

  -- behind the search for the symbol table
  from_symbols : (text symbols : Section) (found : ℕ × Part) (j : ℕ) (part : Part) → is_table part ≡ true → Holds image layout text found → is_table found.1 ≡ false → Holds image layout symbols (j, part)
      → listed_from text symbols ≡ answer_from found part
  from_symbols text symbols found j (Bytes name kind link body) is t other s = absurd cc
  from_symbols text symbols found j (Table name link rows) is t other s =
      let same_link : symbols.link ≡ link = ap (λ (x : Section). x.link) s.is in
      let agree : (x : Section) (q : ℕ × Part) → Holds image layout x q → eqb x.index symbols.link ≡ eqb q.0 link =
      λ x q h. ap (λ (n : ℕ). eqb n symbols.link) (ap (λ (y : Section). y.index) h.is) ∙ ap (λ (n : ℕ). eqb q.0 n) same_link in
      linked_by text symbols found j name link rows (find (λ (x : Section). eqb x.index symbols.link) sections) (find (λ (q : ℕ × Part). eqb q.0 link) numbered) refl refl
      (both (λ (x : Section). eqb x.index symbols.link) (λ (q : ℕ × Part). eqb q.0 link) agree) t other s

  -- behind the search for the name
  from_text : (text : Section) (found : ℕ × Part) → Holds image layout text found → is_table found.1 ≡ false → listed_for text ≡ answer_for found
  from_text text found t other =
      let f : Section → Bool = λ s. eqb s.kind 2 in
      let g : ℕ × Part → Bool = λ q. is_table q.1 in
      let agree : (s : Section) (q : ℕ × Part) → Holds image layout s q → f s ≡ g q = λ s q h. ap (λ (x : Section). eqb x.kind 2) h.is ∙ kind_agrees q.1 h.unclaimed in
      ends (find f sections) (find g numbered) refl refl (both f g agree)
    where
      with_symbols : (o : Option Section) (p : Option (ℕ × Part)) → find (λ (q : ℕ × Part). is_table q.1) numbered ≡ p → BothOrNone (Holds image layout) o p
          → (required (section_is_missing (codes ".symtab")) o >>= λ (symbols : Section). listed_from text symbols)
          ≡ (required (section_is_missing (codes ".symtab")) (option_map (λ (q : ℕ × Part). q.1) p) >>= λ (part : Part). answer_from found part)
      with_symbols None None f r = refl
      with_symbols None (Some q) f r = absurd r
      with_symbols (Some symbols) None f r = absurd r
      with_symbols (Some symbols) (Some q) f r = from_symbols text symbols found q.0 q.1 (found_passes (λ (x : ℕ × Part). is_table x.1) numbered q f) t other r

      ends : (o : Option Section) (p : Option (ℕ × Part)) → find (λ (s : Section). eqb s.kind 2) sections ≡ o → find (λ (q : ℕ × Part). is_table q.1) numbered ≡ p → BothOrNone (Holds image layout) o p
          → listed_for text ≡ answer_for found
      ends o p e f r =
          ap (λ (x : Result Section Refusal). x >>= λ (symbols : Section). listed_from text symbols) (sought_in_file (section_is_missing (codes ".symtab")) (λ (s : Section). eqb s.kind 2) o e)
          ∙ with_symbols o p f r
          ∙ sym (ap (λ (x : Option Part). required (section_is_missing (codes ".symtab")) x >>= λ (part : Part). answer_from found part) (table_part ∙ ap (option_map (λ (q : ℕ × Part). q.1)) f))

  named_by : (name : List ℕ) (o : Option Section) (p : Option (ℕ × Part)) → BothOrNone (Holds image layout) o p → IsNotTable p
      → (required symbols_section_is_missing o >>= λ (text : Section). listed_for text) ≡ (required symbols_section_is_missing p >>= λ (found : ℕ × Part). answer_for found)
  named_by name None None r other = refl
  named_by name None (Some found) r other = absurd r
  named_by name (Some text) None r other = absurd r
  named_by name (Some text) (Some found) r other = from_text text found r other

  -- the readers' answer
  read_back : (name : List ℕ) → IsNotTable (part_named image name) → elf_answer class table name ≡ symbols_of image name
  unfolding symbols_of elf_answer
  read_back name other =
      let f : Section → Bool = λ s. is_named name (name_of class table s) in
      let g : ℕ × Part → Bool = λ q. is_named name (part_name_of image q.1) in
      let agree : (s : Section) (q : ℕ × Part) → Holds image layout s q → f s ≡ g q = λ s q h. ap (is_named name) (name_back image layout due fits s q h) in
      ap (λ (x : Result Section Refusal). x >>= λ (text : Section). listed_for text) (sought_in_file symbols_section_is_missing f (find f sections) refl)
      ∙ named_by name (find f sections) (find g numbered) (both f g agree) other

-- in each layout, an image's file reads back to what the image holds
pub reads_back : (image : Image) → LayoutsAgree image
reads_back image layout fits due name other =
    let d = lays_out image layout due in
    let n = names_at image layout d in
    let named = n.2 in
    ap (λ (t : SectionTable). elf_answer (class_of layout) t name) (table_back image layout d named.there) ∙ read_back image layout d fits name other
