-- What was read of a file has its sections.
use Rattle.std.proofs.Common.{◌≡◌, ℕ, Bool, true, false, cond, ltb, List, [], ◌∷◌, map, length, Option, Some, None, Result, Ok, Err, refl, sym, ap, ap₂, subst, ◌∙◌}
use Rattle.std.specs.Prelude.{find, is_some}
use Rattle.std.specs.Result.{IsErr, IsErrAnd}
use Rattle.binfarce.specs.declared.ByteOrder.{ByteOrder}
use Rattle.binfarce.specs.declared.Format.{Format}
use Rattle.binfarce.specs.declared.Format.TheVariants as formats
use Rattle.binfarce.specs.Elf as elf
use Rattle.binfarce.specs.ElfEnds.{file_kind}
use Rattle.binfarce.specs.Format.{format_of}
use Rattle.binfarce.specs.Macho as macho
use Rattle.binfarce.specs.Pe as pe
use Rattle.binfarce_pe.specs.PeNames.{full_name, has_long_names, offset_in, strings_of}
use Rattle.binfarce.specs.Refusal.{Refusal, refusal_of, unexpected_eof}
use Rattle.binfarce.specs.Walk.{Walk, ended}
use Rattle.binfarce_tables.specs.BeginningReading as beginning
use Rattle.binfarce_tables.specs.BeginningReading.{ReadsBeginning}
use Rattle.binfarce_tables.specs.PeReading.{needed_strings}
use Rattle.binfarce_tables.specs.Reading.{Reads}
use Rattle.binfarce_tables.specs.SectionReading.{FileSections, file_sections}
use Rattle.binfarce_tables.specs.declared.error.ReadError.{ReadError}
use Rattle.binfarce_tables.specs.declared.error.ReadError.TheVariants.{Refused, Unreadable, OutOfMemory}
use Rattle.binfarce_sections.specs.Section.{Section, elf_named, macho_section, pe_named, pe_section, mapped, sections_of, elf_sections, macho_sections, pe_sections, pe_sections_by}
use Rattle.binfarce_sections.specs.Views.{named_by, Opens}
use Rattle.binfarce_sections.specs.declared.error.SectionError.TheVariants as errors
use Rattle.binfarce_sections.specs.declared.sections.Sections.{Sections}
use Rattle.binfarce_sections.specs.declared.tables.Tables.{Tables}
use Rattle.binfarce_sections.specs.declared.tables.Tables.TheVariants.{Elf, Macho, Pe, Unknown}
use Rattle.binfarce_sections.specs.Tables.{Has, AreTablesOf, HasLength, ReadsTables}
use Rattle.binfarce_tables.proofs.Readings.{taken, err_is}
use Rattle.binfarce_sections.proofs.Opening.{table_of}

-- the sections of a file are those of its format
pub of_format : (file : List ℕ) (format : Format) → format_of file ≡ format → sections_of (format_of file) file ≡ sections_of format file
of_format file format is = ap (λ (f : Format). sections_of f file) is

pub of_unknown : (file : List ℕ) → format_of file ≡ formats.Unknown → sections_of (format_of file) file ≡ None
unfolding sections_of
of_unknown file format = ap (λ (f : Format). sections_of f file) format

-- what a reading gives of a format, as a walk of sections of any format
abbrev pub walk_of : {S : Type 0} → (S → Walk Section) → Result S Refusal → Walk Section
walk_of seen (Ok s) = seen s
walk_of seen (Err refusal) = ended (Some refusal)

abbrev pub elf_walk : FileSections → Walk Section
elf_walk seen = mapped (elf_named (named_by seen.names)) seen.sections

abbrev whole : elf.ElfClass → ByteOrder → List ℕ → FileSections
whole class order file =
    let table = table_of class order file in
    record {
      class = class;
      order = order;
      kind = file_kind (elf.header_of class order file);
      count = table.shnum;
      sections = elf.walk class table;
      names = elf.names_bytes class table;
      file_length = length file;
    }

-- so of a file that is refused if it is too short
by_length : {S : Type 0} (short : Bool) (seen : S → Walk Section) (given : S) → cond short (ended (Some unexpected_eof)) (seen given) ≡ walk_of seen (cond short (Err unexpected_eof) (Ok given))
by_length true seen given = refl
by_length false seen given = refl

pub elf_is : (class : elf.ElfClass) (order : ByteOrder) (file : List ℕ) → elf_sections class order file ≡ walk_of elf_walk (file_sections class order file)
unfolding elf.name_of
elf_is class order file = by_length (ltb (length file) class.header_length) elf_walk (whole class order file)

pub macho_is : (file : List ℕ) → macho_sections file ≡ walk_of (mapped macho_section) (beginning.macho_sections file)
macho_is file = by_length (ltb (length file) macho.least_length) (mapped macho_section) (macho.walk file)

pub pe_is : (strings file : List ℕ) → pe_sections_by strings file ≡ walk_of (mapped (pe_section strings)) (beginning.pe_sections file)
pe_is strings file = by_length (ltb (length file) (pe.least_length file)) (mapped (pe_section strings)) (pe.walk file)

-- the length that a reading gives is the file's
pub elf_long : (class : elf.ElfClass) (order : ByteOrder) (file : List ℕ) (seen : FileSections) → file_sections class order file ≡ Ok seen → seen.file_length ≡ length file
elf_long class order file seen is = by_test (ltb (length file) class.header_length) is
  where
    by_test : (short : Bool) → Path (Result FileSections Refusal) (cond short (Err unexpected_eof) (Ok (whole class order file))) (Ok seen) → seen.file_length ≡ length file
    by_test true is = absurd cc
    by_test false is = ap (λ (s : FileSections). s.file_length) (taken is)

-- the sections of what was read of an ELF file
pub elf_has : (class : elf.ElfClass) (order : ByteOrder) (file : List ℕ) (seen : FileSections) → Has file (elf_sections class order file) → file_sections class order file ≡ Ok seen
    → Has file (elf_walk seen) × (seen.file_length ≡ length file)
elf_has class order file seen of_class is = (of_class ∙ ap Some (elf_is class order file ∙ ap (walk_of elf_walk) is), elf_long class order file seen is)

-- and of a beginning
pub macho_has : (file bytes : List ℕ) → Has file (macho_sections file) → beginning.macho_sections bytes ≡ beginning.macho_sections file → Has file (macho_sections bytes)
macho_has file bytes of_format same = of_format ∙ ap Some (macho_is file ∙ ap (walk_of (mapped macho_section)) (sym same) ∙ sym (macho_is bytes))

-- a name that isn't in a string table is the stored one
short_name : (strings stored : List ℕ) → offset_in stored ≡ None → full_name strings stored ≡ stored
unfolding full_name
short_name strings stored is = rw is refl

-- such names are the same by any table
short_names : (one other : List ℕ) (items : List pe.Section) → find (λ s. is_some (offset_in s.name)) items ≡ None → map (pe_section one) items ≡ map (pe_section other) items
short_names one other [] none = refl
short_names one other (s ∷ items) none = by_offset (λ rest. short_names one other items rest) (offset_in s.name) refl none
  where
    by_offset : (find (λ s. is_some (offset_in s.name)) items ≡ None → map (pe_section one) items ≡ map (pe_section other) items) → (o : Option ℕ) → offset_in s.name ≡ o → cond (is_some o) (Some s) (find (λ s. is_some (offset_in s.name)) items) ≡ None → map (pe_section one) (s ∷ items) ≡ map (pe_section other) (s ∷ items)
    by_offset others None is none =
        ap₂ (λ (name : List ℕ) (rest : List Section). pe_named name s ∷ rest) (short_name one s.name is ∙ sym (short_name other s.name is)) (others none)
    by_offset others (Some offset) is none = absurd cc

-- and what was read of a string table has the names
needed : (file : List ℕ) → pe_sections_by (needed_strings file) file ≡ pe_sections file
unfolding needed_strings has_long_names
needed file = by_found (find (λ s. is_some (offset_in s.name)) (pe.walk file).items) refl
  where
    by_found : (o : Option pe.Section) → find (λ s. is_some (offset_in s.name)) (pe.walk file).items ≡ o → pe_sections_by (cond (is_some o) (strings_of file) []) file ≡ pe_sections file
    by_found (Some s) is = refl
    by_found None is = ap (λ (items : List Section). cond (ltb (length file) (pe.least_length file)) (ended (Some unexpected_eof)) (record { items = items; refusal = (pe.walk file).refusal })) (short_names [] (strings_of file) (pe.walk file).items is)

pub pe_has : (file bytes strings : List ℕ) → Has file (pe_sections file) → beginning.pe_sections bytes ≡ beginning.pe_sections file → strings ≡ needed_strings file → Has file (pe_sections_by strings bytes)
pe_has file bytes strings of_format same are =
    of_format ∙ ap Some (sym (needed file) ∙ ap (λ (s : List ℕ). pe_sections_by s file) (sym are)
    ∙ pe_is strings file ∙ ap (walk_of (mapped (pe_section strings))) (sym same) ∙ sym (pe_is strings bytes))

-- why nothing was read, as `?` passes it on
not_read : {S X : Type 0} (may_fail : Bool) (view : X → S) (seen : S → Walk Section) (answer : Result S Refusal) (file : List ℕ) (e : ReadError)
    → Has file (walk_of seen answer) → Reads may_fail view answer (Err e) → ReadsTables may_fail file (Err e)
not_read may_fail view seen answer file (Refused p) has reads = has ∙ ap (λ (a : Result _ Refusal). Some (walk_of seen a)) reads
not_read may_fail view seen answer file Unreadable has reads = reads
not_read may_fail view seen answer file OutOfMemory has reads = tt

-- why a source's length and first bytes weren't read
not_asked : {X : Type 0} (may_fail : Bool) (source : X) (file : List ℕ) (e : ReadError) → Reads {X = X} may_fail (λ x. x) (Ok source) (Err e) → ReadsTables may_fail file (Err e)
not_asked {X = X} may_fail source file (Refused p) reads = let never : Path (Result X Refusal) (Ok source) (Err (refusal_of p)) = reads in absurd cc
not_asked may_fail source file Unreadable reads = reads
not_asked may_fail source file OutOfMemory reads = tt

pub unasked : {X : Type 0} (may_fail : Bool) (source : X) (file : List ℕ) (e : ReadError) (r : Result Tables ReadError)
    → Reads {X = X} may_fail (λ x. x) (Ok source) (Err e) → (IsErr r × IsErrAnd r (λ x. x ≡ e)) → ReadsTables may_fail file r
unasked may_fail source file e r reads err = err_is (ReadsTables may_fail file) r e err (not_asked may_fail source file e reads)

pub unread : {S X : Type 0} (may_fail : Bool) (view : X → S) (seen : S → Walk Section) (answer : Result S Refusal) (file : List ℕ) (e : ReadError) (r : Result Tables ReadError)
    → Has file (walk_of seen answer) → Reads may_fail view answer (Err e) → (IsErr r × IsErrAnd r (λ x. x ≡ e)) → ReadsTables may_fail file r
unread may_fail view seen answer file e r has reads err = err_is (ReadsTables may_fail file) r e err (not_read may_fail view seen answer file e has reads)

not_begun : {S : Type 0} (may_fail : Bool) (seen : S → Walk Section) (answer : List ℕ → Result S Refusal) (file : List ℕ) (e : ReadError)
    → Has file (walk_of seen (answer file)) → ReadsBeginning may_fail answer file (Err e) → ReadsTables may_fail file (Err e)
not_begun may_fail seen answer file (Refused p) has reads = has ∙ ap (λ (a : Result _ Refusal). Some (walk_of seen a)) reads
not_begun may_fail seen answer file Unreadable has reads = reads
not_begun may_fail seen answer file OutOfMemory has reads = tt

pub unbegun : {S : Type 0} (may_fail : Bool) (seen : S → Walk Section) (answer : List ℕ → Result S Refusal) (file : List ℕ) (e : ReadError) (r : Result Tables ReadError)
    → Has file (walk_of seen (answer file)) → ReadsBeginning may_fail answer file (Err e) → (IsErr r × IsErrAnd r (λ x. x ≡ e)) → ReadsTables may_fail file r
unbegun may_fail seen answer file e r has reads err = err_is (ReadsTables may_fail file) r e err (not_begun may_fail seen answer file e has reads)

-- the length of tables that have sections is the file's
pub length_is : (file : List ℕ) (tables : Tables) (n : ℕ) (sections : Sections) → AreTablesOf file tables → HasLength tables n → Opens (sections_of (format_of file) file) (Ok sections) → n ≡ length file
length_is file (Elf parts) n sections are has opened = has ∙ are.1
length_is file (Macho begun) n sections are has opened = has ∙ are.1
length_is file (Pe parts) n sections are has opened = has ∙ are.1
length_is file Unknown n sections are has opened = absurd (subst (λ (w : Option (Walk Section)). Opens w (Ok sections)) (of_unknown file are) opened)

-- a file of an unknown format
pub unknown_opens : (file : List ℕ) (tables : Tables) → tables ≡ Unknown → AreTablesOf file tables → Opens (sections_of (format_of file) file) (Err errors.Unknown)
unknown_opens file tables is are =
    let format : format_of file ≡ formats.Unknown = subst (λ (t : Tables). AreTablesOf file t) is are in
    subst (λ (w : Option (Walk Section)). Opens w (Err errors.Unknown)) (sym (of_unknown file format)) refl
