-- What `list` and `report` do for a section of an ELF file, from what the same calls do for its selection.
use Rattle.std.proofs.Common.{◌≡◌, ◌≢◌, ℕ, true, List, [], ◌∷◌, ◌++◌, map, Option, Some, None, is_some, unwrap_or, Result, Ok, Err, refl, sym, ap, ap₂, subst, ◌∙◌, inl, inr, false}
use Rattle.std.specs.List.{AllZip, concat, sum_by}
use Rattle.binfarce.specs.declared.Format.{Format}
use Rattle.binfarce.specs.declared.Format.TheVariants as formats
use Rattle.binfarce.specs.declared.SymbolTable.TheVariants.{Symtab}
use Rattle.binfarce.specs.declared.ByteOrder.{ByteOrder}
use Rattle.binfarce.specs.Elf.{ElfClass, elf32, elf64}
use Rattle.binfarce.specs.ElfSelection as elf
use Rattle.binfarce.specs.ElfSymbols.{elf_file_answer}
use Rattle.binfarce.specs.Format.{format_of}
use Rattle.binfarce.specs.Refusal.{Refusal, refusal_of}
use Rattle.binfarce.specs.SectionEntries.{SectionEntry, SelectedSymbols, SelectsSome, as_listed, in_section}
use Rattle.binfarce.specs.Symbol.{Entry, Listed, ListsSome}
use Rattle.binfarce_tables.specs.declared.error.ReadError.{ReadError}
use Rattle.binfarce_tables.specs.declared.error.ReadError.TheVariants.{Refused, Unreadable, OutOfMemory}
use Rattle.binfarce_tools.specs.Answer.{MemoryIn, entries_of, file_answer, one_list, selected_symbols}
use Rattle.binfarce_tools.specs.Answer as selection
use Rattle.binfarce_tools.specs.Entries.{GetsAs, GetsIn, HoldsLeft, HoldsText, all_left}
use Rattle.binfarce_tools.specs.Given.{AreContentsOf, GetsContents, read_failure_of}
use Rattle.binfarce_tools.specs.Listing.{size_line}
use Rattle.binfarce_tools.specs.Report.{IsReportOfShares}
use Rattle.binfarce_tools.specs.SectionAnswer.{IsLineOf, IsListingOf, IsReportOf, NeedsMemory, ReaderNeedsMemory, format_answer, is_elf, readers_answer}
use Rattle.binfarce_tools.specs.SelectedTexts.{IsLineOfSelected, IsListingOfSelected, IsReportOfSelected, last_line}
use Rattle.binfarce_tools.specs.Tables.{ReadsAs, ReadsTables, given_by}
use Rattle.binfarce_tools.specs.declared.tables.Tables.{Tables}
use Rattle.binfarce_tools.specs.declared.functions.Selected.{Selected}
use Rattle.binfarce_tools.specs.declared.list.ListError.{ListError}
use Rattle.binfarce_tools.specs.Writing.{Outcome, EndsAs, IsDue, Takes, written, write_failed}
use Rattle.binfarce_tools.proofs.Selected.{elf_listed, sized_in}
use Rattle.binfarce_tools.proofs.Reports.{HoldsList}
use Rattle.binfarce_tools.proofs.TablesRead.{of_format}

-- the answer of a selection as that of one list
abbrev pub as_list : Option (Result SelectedSymbols Refusal) → Option (Result Listed Refusal)
as_list None = None
as_list (Some answer) = Some (one_list answer)

-- the last line of a selection that has a size
last_is : (size : Option ℕ) (other : ℕ) → is_some size ≡ true → last_line size ≡ size_line (unwrap_or size other)
last_is (Some n) other is = refl
last_is None other is = absurd cc

lines_are : (names : ℕ → Option (List ℕ)) (size : Option ℕ) → is_some size ≡ true → (entries : List SectionEntry) (lines : List (List ℕ)) → AllZip (IsLineOfSelected names size) entries lines
    → AllZip IsLineOf (map (λ e. e.entry) entries) lines
lines_are names None sized entries lines are = absurd cc
lines_are names (Some n) sized [] [] are = tt
lines_are names (Some n) sized [] (line ∷ lines) are = absurd are
lines_are names (Some n) sized (e ∷ entries) [] are = absurd are
lines_are names (Some n) sized (e ∷ entries) (line ∷ lines) are = (are.0, lines_are names (Some n) sized entries lines are.1)

-- the sizes of the entries of a selection
abbrev sizes : SelectedSymbols → ℕ
sizes s = sum_by (λ (e : Entry). e.size) (entries_of s)

pub listing_is : (s : SelectedSymbols) (text : List ℕ) → is_some s.section_size ≡ true → IsListingOfSelected s text → IsListingOf (as_listed s) text
listing_is s text sized is =
    (is.0, lines_are s.section_name s.section_size sized s.entries is.0 is.1, is.2 ∙ ap (λ (last : List ℕ). concat is.0 ++ last) (last_is s.section_size (sizes s) sized))

pub report_is : (s : SelectedSymbols) (text : List ℕ) → is_some s.section_size ≡ true → IsReportOfSelected s text → IsReportOf (as_listed s) text
report_is s text sized is = (is.0, is.1, subst (λ (last : List ℕ). IsReportOfShares is.0 last text) (last_is s.section_size (sizes s) sized) is.2)

some_entries : (entries : List SectionEntry) → entries ≢ [] → map (λ e. e.entry) entries ≢ []
some_entries [] some = absurd (some refl)
some_entries (e ∷ entries) some = λ none. cc

-- what is got of a section's answer, as one list with its size
of_section : (memory : Result SelectedSymbols Refusal → Type 0) (needs : Result Listed Refusal → Type 0) (answer : Result SelectedSymbols Refusal) (result : Result Selected ListError)
    → (memory answer → needs (one_list answer)) → ((s : SelectedSymbols) → answer ≡ Ok s → is_some s.section_size ≡ true) → GetsAs HoldsLeft memory (Some answer) result → GetsAs HoldsText needs (Some (one_list answer)) result
of_section memory needs (Ok s) (Ok value) more sized h = (ap (map (λ (e : SectionEntry). e.entry)) h.0, h.1 ∙ by_size s.section_size (sizes s) (sized s refl))
  where
    by_size : (o : Option ℕ) (other : ℕ) → is_some o ≡ true → o ≡ Some (unwrap_or o other)
    by_size (Some n) other is = refl
    by_size None other is = absurd cc
of_section memory needs (Ok s) (Err e) more sized h = (more h.0, h.1)
of_section memory needs (Err why) (Ok value) more sized h = h
of_section memory needs (Err why) (Err e) more sized (inl h) = inl h
of_section memory needs (Err why) (Err e) more sized (inr h) = inr (more h.0, h.1)

elf_needs : (answer : Result SelectedSymbols Refusal) → SelectsSome answer → ListsSome (one_list answer)
elf_needs (Ok s) some = some_entries s.entries some
elf_needs (Err why) some = some

-- what the reader of an ELF file, or of a file of an unknown format, gives is what is got of the section
module _ (class : ElfClass) (order : ByteOrder) (file section : List ℕ) (result : Result Selected ListError) where
  abbrev answer : Result SelectedSymbols Refusal
  answer = elf.selected_file_answer Symtab class order file (Some section)

  of_class : ((s : SelectedSymbols) → answer ≡ Ok s → is_some s.section_size ≡ true) → GetsAs HoldsLeft SelectsSome (Some answer) result → GetsAs HoldsText ListsSome (Some (elf_file_answer class order file section)) result
  of_class sized gets = subst (λ (a : Result Listed Refusal). GetsAs HoldsText ListsSome (Some a) result) (sym (elf_listed class order file section)) (of_section SelectsSome ListsSome answer result (elf_needs answer) sized gets)

module _ (file section : List ℕ) (result : Result Selected ListError) (gets : GetsIn Symtab file (Some section) result) where
  in_format : (format : Format) → format_of file ≡ format → GetsAs HoldsLeft (selection.NeedsMemory format file) (selected_symbols Symtab (Some section) format file) result
  in_format format is = subst (λ (f : Format). GetsAs HoldsLeft (selection.NeedsMemory f file) (selected_symbols Symtab (Some section) f file) result) is gets

  from_format : (format : Format) → format_of file ≡ format → GetsAs HoldsText (ReaderNeedsMemory format file) (format_answer format file section) result → GetsAs HoldsText (NeedsMemory file) (readers_answer file section) result
  from_format format is = subst (λ (f : Format). GetsAs HoldsText (ReaderNeedsMemory f file) (format_answer f file section) result) (sym is)

  pub of_elf32 : (order : ByteOrder) → format_of file ≡ formats.Elf32 order → GetsAs HoldsText (NeedsMemory file) (readers_answer file section) result
  unfolding format_answer selected_symbols selection.NeedsMemory ReaderNeedsMemory
  of_elf32 order is =
      from_format (formats.Elf32 order) is (of_class elf32 order file section result
      (λ s ok. (sized_in Symtab file (Some section) s (of_format Symtab (Some section) file (formats.Elf32 order) is ∙ ap Some ok)).0) (in_format (formats.Elf32 order) is))

  pub of_elf64 : (order : ByteOrder) → format_of file ≡ formats.Elf64 order → GetsAs HoldsText (NeedsMemory file) (readers_answer file section) result
  unfolding format_answer selected_symbols selection.NeedsMemory ReaderNeedsMemory
  of_elf64 order is =
      from_format (formats.Elf64 order) is (of_class elf64 order file section result
      (λ s ok. (sized_in Symtab file (Some section) s (of_format Symtab (Some section) file (formats.Elf64 order) is ∙ ap Some ok)).0) (in_format (formats.Elf64 order) is))

  pub of_unknown : format_of file ≡ formats.Unknown → GetsAs HoldsText (NeedsMemory file) (readers_answer file section) result
  unfolding format_answer selected_symbols
  of_unknown is = from_format formats.Unknown is (by_result result (in_format formats.Unknown is))
    where
      by_result : (r : Result Selected ListError) → GetsAs HoldsLeft (selection.NeedsMemory formats.Unknown file) None r → GetsAs HoldsText (ReaderNeedsMemory formats.Unknown file) None r
      by_result (Ok value) h = h
      by_result (Err e) h = h

-- an ELF file
module _ (file section : List ℕ) (elf : is_elf (format_of file) ≡ true) where
  pub answer_is : readers_answer file section ≡ as_list (file_answer file section)
  unfolding format_answer selected_symbols
  answer_is = by_format (format_of file) elf
    where
      by_format : (format : Format) → is_elf format ≡ true → format_answer format file section ≡ as_list (selected_symbols Symtab (Some section) format file)
      by_format (formats.Elf32 order) is = ap (λ (answer : Result Listed Refusal). Some answer) (elf_listed elf32 order file section)
      by_format (formats.Elf64 order) is = ap (λ (answer : Result Listed Refusal). Some answer) (elf_listed elf64 order file section)
      by_format formats.Macho is = absurd cc
      by_format formats.PE is = absurd cc
      by_format formats.Unknown is = absurd cc

  -- a refusal of the selection is that of the section
  pub refusal_is : (refusal : Refusal) → file_answer file section ≡ Some (Err refusal) → readers_answer file section ≡ Some (Err refusal)
  refusal_is refusal is = answer_is ∙ ap as_list is

  -- why the tables of a section weren't read
  pub unread : (MayFail : Type 0) (e : ReadError) → ReadsTables MayFail Symtab file (Some section) (Err e) → ReadsAs (AreContentsOf file section) MayFail (readers_answer file section) (Err e)
  unread MayFail (Refused e) is = refusal_is (refusal_of e) is
  unread MayFail Unreadable is = is
  unread MayFail OutOfMemory is = tt

  needs : (refusal : Refusal) → MemoryIn file (Some section) (Err refusal) → NeedsMemory file (Err refusal)
  unfolding selection.NeedsMemory ReaderNeedsMemory
  needs refusal is = by_format (format_of file) elf is
    where
      by_format : (format : Format) → is_elf format ≡ true → selection.NeedsMemory format file (Err refusal) → ReaderNeedsMemory format file (Err refusal)
      by_format (formats.Elf32 order) elf is = absurd is
      by_format (formats.Elf64 order) elf is = absurd is
      by_format formats.Macho elf is = absurd cc
      by_format formats.PE elf is = absurd is
      by_format formats.Unknown elf is = absurd is

  -- how a call ended
  pub ends : (Fits : Listed → Type 0) (o : Outcome) → EndsAs (λ (s : SelectedSymbols). Fits (as_listed s)) (MemoryIn file (Some section)) (file_answer file section) o
      → EndsAs Fits (NeedsMemory file) (readers_answer file section) o
  ends Fits o is = subst (λ (a : Option (Result Listed Refusal)). EndsAs Fits (NeedsMemory file) a o) (sym answer_is) (by_answer (file_answer file section) is)
    where
      by_answer : (a : Option (Result SelectedSymbols Refusal)) → EndsAs (λ (s : SelectedSymbols). Fits (as_listed s)) (MemoryIn file (Some section)) a o → EndsAs Fits (NeedsMemory file) (as_list a) o
      by_answer None is = is
      by_answer (Some (Err refusal)) (inl is) = inl is
      by_answer (Some (Err refusal)) (inr is) = inr (needs refusal is.0, is.1)
      by_answer (Some (Ok s)) is = is

  -- what was taken
  module _ (IsSelected : SelectedSymbols → List ℕ → Type 0) (IsText : Listed → List ℕ → Type 0) (same : (s : SelectedSymbols) (text : List ℕ) → is_some s.section_size ≡ true → IsSelected s text → IsText (as_listed s) text) where
    due : (text : List ℕ) → IsDue IsSelected (file_answer file section) text → IsDue IsText (readers_answer file section) text
    due text is = subst (λ (a : Option (Result Listed Refusal)). IsDue IsText a text) (sym answer_is) (by_answer (file_answer file section) refl is)
      where
        by_answer : (a : Option (Result SelectedSymbols Refusal)) → file_answer file section ≡ a → IsDue IsSelected a text → IsDue IsText (as_list a) text
        by_answer None at is = absurd is
        by_answer (Some (Err refusal)) at is = absurd is
        by_answer (Some (Ok s)) at is = same s text (sized_in Symtab file (Some section) s at).0 is

    pub takes : (old new : Option (List ℕ)) (o : Outcome) → Takes IsSelected (file_answer file section) old new o → Takes IsText (readers_answer file section) old new o
    takes old new written is = (is.0, due is.0 is.1, is.2)
    takes old new write_failed is = (is.0, due is.0 is.1, is.2)
    takes old new o is = is

-- the answer of a reader as one of a selection, whose sections don't count
abbrev pub as_selection : Listed → SelectedSymbols
as_selection listed = record { entries = in_section 0 listed.entries; section_size = Some listed.section_size; section_name = λ number. None; shares_addresses = false; version_name = λ version. None }

alone : (entries : List Entry) → map (λ e. e.entry) (in_section 0 entries) ≡ entries
alone [] = refl
alone (e ∷ entries) = ap (λ (es : List Entry). e ∷ es) (alone entries)

same_list : (listed : Listed) → as_listed (as_selection listed) ≡ listed
same_list listed = ap (λ (es : List Entry). record { entries = es; section_size = listed.section_size }) (alone listed.entries)

abbrev pub selected_of : Option (Result Listed Refusal) → Option (Result SelectedSymbols Refusal)
selected_of None = None
selected_of (Some (Err refusal)) = Some (Err refusal)
selected_of (Some (Ok listed)) = Some (Ok (as_selection listed))

module _ (needs : Result Listed Refusal → Type 0) where
  abbrev pub memory_of : Result SelectedSymbols Refusal → Type 0
  memory_of answer = needs (one_list answer)

  -- what was got of it is what is got of the selection
  pub got_of : (answer : Option (Result Listed Refusal)) (selected : Selected) (entries : List SectionEntry) (size : Option ℕ) → entries ≡ all_left selected.functions → size ≡ selected.size
      → GetsAs HoldsText needs answer (Ok selected) → GetsAs HoldsList memory_of (selected_of answer) (Ok (map (λ e. e.entry) entries, size))
  got_of None selected entries size left is gets = absurd gets
  got_of (Some (Err refusal)) selected entries size left is gets = absurd gets
  got_of (Some (Ok listed)) selected entries size left is gets = (ap (map (λ (e : SectionEntry). e.entry)) left ∙ gets.0 ∙ sym (alone listed.entries), is ∙ gets.1)

  pub ends_of : (Fits : Listed → Type 0) (answer : Option (Result Listed Refusal)) (o : Outcome) → EndsAs (λ (s : SelectedSymbols). Fits (as_listed s)) memory_of (selected_of answer) o → EndsAs Fits needs answer o
  ends_of Fits None o is = is
  ends_of Fits (Some (Err refusal)) o is = is
  ends_of Fits (Some (Ok listed)) o is = subst (λ (l : Listed). EndsAs Fits needs (Some (Ok l)) o) (same_list listed) is

pub takes_of : (IsSelected : SelectedSymbols → List ℕ → Type 0) (IsText : Listed → List ℕ → Type 0) → ((s : SelectedSymbols) (text : List ℕ) → is_some s.section_size ≡ true → IsSelected s text → IsText (as_listed s) text)
    → (answer : Option (Result Listed Refusal)) (old new : Option (List ℕ)) (o : Outcome) → Takes IsSelected (selected_of answer) old new o → Takes IsText answer old new o
takes_of IsSelected IsText same answer old new o is = by_outcome o is
  where
    due : (text : List ℕ) → IsDue IsSelected (selected_of answer) text → IsDue IsText answer text
    due text is = by_answer answer is
      where
        by_answer : (a : Option (Result Listed Refusal)) → IsDue IsSelected (selected_of a) text → IsDue IsText a text
        by_answer None is = absurd is
        by_answer (Some (Err refusal)) is = absurd is
        by_answer (Some (Ok listed)) is = subst (λ (l : Listed). IsText l text) (same_list listed) (same (as_selection listed) text refl is)

    by_outcome : (o : Outcome) → Takes IsSelected (selected_of answer) old new o → Takes IsText answer old new o
    by_outcome written is = (is.0, due is.0 is.1, is.2)
    by_outcome write_failed is = (is.0, due is.0 is.1, is.2)
    by_outcome o is = is

-- the listing of function symbols that a reader gave is that of its answer
pub listing_of : (tables : Tables) (selected : Selected) (listed : Listed) (text : List ℕ) → HoldsText listed selected → IsListingOfSelected (given_by tables selected) text → IsListingOf listed text
listing_of tables selected listed text held is =
    subst (λ (l : Listed). IsListingOf l text) (ap₂ (λ (es : List Entry) (n : ℕ). record { entries = es; section_size = n }) held.0 (ap (λ (o : Option ℕ). unwrap_or o (sizes (given_by tables selected))) held.1))
    (listing_is (given_by tables selected) text (ap is_some held.1) is)

-- the failure for what wasn't read
pub not_read : (MayFail : Type 0) (file section : List ℕ) (e : ReadError) → ReadsAs (AreContentsOf file section) MayFail (readers_answer file section) (Err e) → GetsContents MayFail file section (Err (read_failure_of e))
not_read MayFail file section (Refused e) is = is
not_read MayFail file section Unreadable is = is
not_read MayFail file section OutOfMemory is = tt
