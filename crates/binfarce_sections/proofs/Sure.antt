-- Sources that surely give the parts that are read, and results that are then not `Unreadable`.
use Rattle.binfarce_tables.proofs.Readings.{err_is}
use Rattle.std.proofs.Common.{◌≡◌, ℕ, ◌+◌, ◌≤◌, Bool, true, List, length, Option, Some, None, Result, Ok, Err, sym, ap, subst, ◌∙◌, refl}
use Rattle.std.specs.Prelude.{◌≢◌, All, IfErr}
use Rattle.std.proofs.lemmas.Bool.{le-leb}
use Rattle.std.proofs.lemmas.List.Elements.{All-head, All-tail}
use Rattle.std.specs.Result.{IsErr, IsErrAnd}
use Rattle.binfarce_bytes.specs.Part.{Part, part}
use Rattle.binfarce_bytes.specs.Source.{ReadsOnly}
use Rattle.binfarce.specs.declared.Format.{Format}
use Rattle.binfarce.specs.Format.{format_of}
use Rattle.binfarce.specs.Refusal.{Refusal}
use Rattle.binfarce.specs.Walk.{Walk, first}
use Rattle.binfarce_tables.specs.declared.error.ReadError.{ReadError}
use Rattle.binfarce_tables.specs.declared.error.ReadError.TheVariants as reading
use Rattle.binfarce_tables.proofs.Sure.{front, back, only}
use Rattle.binfarce_tools.specs.Parts.{head_part}
use Rattle.binfarce_sections.specs.Named.{is_named}
use Rattle.binfarce_sections.specs.Parts.{section_parts_of, format_parts, bytes_parts, found_parts, first_parts, named_parts_of}
use Rattle.binfarce_sections.specs.Section.{Section, sections_of}
use Rattle.binfarce_rows.specs.Json.{Style}
use Rattle.binfarce_sections.specs.Results.{TakesBytes, TakesLines, error_of}
use Rattle.binfarce_sections.specs.Views.{Opens, sections_left}
use Rattle.binfarce_sections.specs.declared.error.SectionError.{SectionError}
use Rattle.binfarce_sections.specs.declared.error.SectionError.TheVariants.{Unknown, Parse, Unreadable}
use Rattle.binfarce_sections.specs.declared.sections.Sections.{Sections}

-- what is true of each part that is read for the sections is true of the first bytes, and of each part that the reader of the format reads
pub of_head : (P : Part → Type 0) (file : List ℕ) → All P (section_parts_of file) → P (head_part file)
of_head P file all = All-head P (head_part file) (format_parts (format_of file) file) all

pub of_format : (P : Part → Type 0) (file : List ℕ) (format : Format) → format_of file ≡ format → All P (section_parts_of file) → All P (format_parts format file)
of_format P file format is all =
    subst (λ (f : Format). All P (format_parts f file)) is (All-tail P (head_part file) (format_parts (format_of file) file) all)

-- the parts that are read for the bytes of a section are those that are read for the sections, and the bytes
pub of_sections : (P : Part → Type 0) (file word : List ℕ) → All P (named_parts_of file word) → All P (section_parts_of file)
of_sections P file word all = front P (section_parts_of file) (first_parts (sections_of (format_of file) file) file word) all

of_first : (P : Part → Type 0) (walk : Option (Walk Section)) (sections : Sections) (file word : List ℕ) (section : Section)
    → Opens walk (Ok sections) → first (is_named word) (sections_left sections) ≡ Ok (Some section) → All P (first_parts walk file word) → All P (bytes_parts file section)
unfolding first_parts
of_first P None sections file word section opened is all = absurd opened
of_first P (Some walk) sections file word section opened is all =
    let found : first (is_named word) walk ≡ Ok (Some section) = ap (first (is_named word)) (sym opened) ∙ is in
    subst (λ (f : Result (Option Section) Refusal). All P (found_parts file f)) found all

pub of_bytes : (P : Part → Type 0) (sections : Sections) (file word : List ℕ) (section : Section)
    → Opens (sections_of (format_of file) file) (Ok sections) → first (is_named word) (sections_left sections) ≡ Ok (Some section) → All P (named_parts_of file word) → All P (bytes_parts file section)
of_bytes P sections file word section opened is all =
    let walk = sections_of (format_of file) file in
    of_first P walk sections file word section opened is (back P (section_parts_of file) (first_parts walk file word) all)

-- of a section that has bytes in the file, these are a part
pub of_part : (P : Part → Type 0) (file : List ℕ) (section : Section) → section.has_bytes ≡ true → section.offset + section.size ≤ length file
    → All P (bytes_parts file section) → P (part section.offset section.size)
of_part P file section has inside all = only P (part section.offset section.size) (rw (has, le-leb (section.offset + section.size) (length file) inside) at all)

-- an error for an error of a reading that is not unreadable
read_surely : (e : ReadError) → e ≢ reading.Unreadable → error_of e ≢ Unreadable
read_surely (reading.Refused p) is unreadable = cc
read_surely reading.Unreadable is unreadable = absurd (is refl)
read_surely reading.OutOfMemory is unreadable = cc

-- an error of a reading, as `?` converts it
pub converted_only : {X : Type 0} {sure : Part → Bool} {old new : (Part → Bool) → Bool} {parts : List Part} {e : ReadError} (r : Result X SectionError)
    → ReadsOnly sure old new parts (e ≢ reading.Unreadable) → (IsErr r × IsErrAnd r (λ s. s ≡ error_of e)) → ReadsOnly sure old new parts (IfErr r (λ s. s ≢ Unreadable))
converted_only {e = e} r reads error =
    record { asked = reads.asked; given = λ are. err_is (λ (x : Result _ SectionError). IfErr x (λ s. s ≢ Unreadable)) r (error_of e) error (read_surely e (reads.given are)) }

-- why sections aren't opened is not that the source is unreadable
pub opened_surely : (walk : Option (Walk Section)) (e : SectionError) → Opens walk (Err e) → e ≢ Unreadable
opened_surely None e is unreadable = let never : Unknown ≡ Unreadable = sym is ∙ unreadable in absurd cc
opened_surely (Some walk) e is unreadable = let never : Parse is.0 ≡ Unreadable = sym is.2 ∙ unreadable in absurd cc

-- nor is it so of a call that writes lines, or bytes that were read
pub lines_surely : (style : Style) (walk : Walk Section) (old new : Option (List ℕ)) (r : Result (Unit {0}) SectionError) → TakesLines style (Some walk) old new r → IfErr r (λ e. e ≢ Unreadable)
lines_surely style walk old new (Ok x) takes = tt
lines_surely style walk old new (Err e) takes = λ is. subst (λ (s : SectionError). TakesLines style (Some walk) old new (Err s)) is takes

pub bytes_surely : (bytes : List ℕ) (old new : Option (List ℕ)) (r : Result (Unit {0}) SectionError) → TakesBytes (Ok bytes) old new r → IfErr r (λ e. e ≢ Unreadable)
bytes_surely bytes old new (Ok x) takes = tt
bytes_surely bytes old new (Err e) takes = λ is. (subst (λ (s : SectionError). TakesBytes (Ok bytes) old new (Err s)) is takes).2
