-- What a file comes to, by what is read of it and by how its showing ended.
use Rattle.std.proofs.Common.{◌≡◌, ◌≢◌, ◌∙◌, ◌⊎◌, inl, inr, ℕ, Bool, true, false, not, ◌||◌, List, [], ◌∷◌, ◌++◌, Option, Some, None, Result, Ok, Err, refl, sym, ap, subst, append_assoc, append-nil, IsErrAnd, if◌then◌else◌, codes, nat_eq, map}
use Rattle.std.specs.Option.{option_map}
use Rattle.std.specs.Io.KnownBytes.{Appends, Keeps}
use Rattle.binfarce_bytes.specs.Format.{format_of}
use Rattle.binfarce_bytes.specs.Refusal.{Refusal, symbols_section_is_missing}
use Rattle.binfarce.specs.SectionEntries.{SelectedSymbols}
use Rattle.binfarce_bytes.specs.declared.format.Format.{Format}
use Rattle.binfarce_bytes.specs.declared.format.Format.TheVariants as formats
use Rattle.binfarce_tools.specs.declared.SymbolTable.{SymbolTable}
use Rattle.binfarce_tools.specs.declared.SymbolTable.TheVariants.{Dynsym, Symtab}
use Rattle.binfarce_bytes.specs.Selection.{section_of}
use Rattle.binfarce_tools.specs.Answer.{selected_answer, selected_symbols}
use Rattle.binfarce_filtering.specs.declared.stream.StreamError.TheVariants as stream
use Rattle.binfarce_sections.specs.declared.error.SectionError.TheVariants as sections
use Rattle.binfarce_tools.specs.declared.report.ReportError.TheVariants as sums
use Rattle.binfarce_tools.specs.Writing as writing
use Rattle.binfarce_tools.specs.Writing.{AppendsBeginning, IsDue, Leaves, Outcome, EndsAs, wrong_usage}
use Rattle.binfarce_io.specs.Faults.{failure, is_failed_write, is_of_call}
use Rattle.binfarce_jobs.specs.Files.{FailsAs, Files, Grows, HintsFault, IsFoundIn, MayBeRefused, RefusesArgument, Reports, ReportsFault, ShowsSource, ShowsOne, State, heading, hinted, refused, shown}
use Rattle.binfarce_sections.specs.Named.{bytes_named}
use Rattle.binfarce_sections.specs.Section.{sections_of}
use Rattle.binfarce_jobs.specs.Hints.{IsOrNone, IsSaidOfRefused, IsSaidOfShown, all_words, count_of, debug_as, debug_of, dynamic_by, dynamic_for, dynamic_in, has_no_bytes, has_none, hint_words, is_bare_fault, is_stripped, lack_in, lacks_descriptors, stripped_for, stripped_in, stripped_words, unknown_for, words_of}
use Rattle.binfarce_io.specs.Output.{pending, taken, writer_of}
use Rattle.binfarce_foreign.specs.Foreign.{first_bytes, foreign_in}
use Rattle.binfarce_io.specs.Input.{IsForeign, IsReadOf, IsUnreadable}
use Rattle.binfarce_io.proofs.Streams.{format_of_beginning}
use Rattle.binfarce_jobs.specs.Limit.{are_above}
use Rattle.binfarce_limits.specs.Rows.{Found, finding_view, finding_words, found_words}
use Rattle.binfarce_limits.specs.declared.rows.Finding.{Finding}
use Rattle.binfarce_jobs.specs.Show.{Fits, HasRowsOf, HasSumsOf, IsAskedText, IsSeenOf, IsShownText, MayEnd, MemoryFor, TakesText, answer_for, answer_taken, answer_unless, answer_with, excess_of, exceeds, has_table, is_bare, is_taken, limits_of}
use Rattle.binfarce_io.specs.declared.fault.Fault.{Fault}
use Rattle.binfarce_io.specs.declared.fault.Fault.TheVariants.{Report, Section, Stream, Unsupported, NotUtf8, SharedAddresses, Unplaced, Missing}
use Rattle.binfarce_jobs.specs.declared.hint.Hint.{Hint}
use Rattle.binfarce_jobs.specs.declared.hint.Hint.TheVariants.{Descriptors}
use Rattle.binfarce_jobs.specs.declared.hint.Hints.{Hints}
use Rattle.binfarce_jobs.specs.declared.limit.Verdict.{Verdict}
use Rattle.binfarce_io.specs.declared.output.Output.{Output}
use Rattle.binfarce_jobs.specs.declared.show.Request.{Request}
use Rattle.binfarce_jobs.specs.declared.show.Seen.{Seen}
use Rattle.binfarce_figures.specs.declared.sums.Sums.{Sums}
use Rattle.binfarce_words.specs.Words.{no_utf8, utf8}

-- the showing of a file that is read ends so
abbrev Ends : Request → (file : List ℕ) → Outcome → Type 0
Ends asked file o = EndsAs (Fits asked.kind) (MemoryFor asked.symbols file) (answer_for asked.symbols file) o

-- a file of an unknown format has no answer
pub no_answer : (which : SymbolTable) (file : List ℕ) (section : Option (List ℕ)) → format_of file ≡ formats.Unknown → selected_answer which section file ≡ None
unfolding selected_symbols
no_answer which file section is = ap (λ (f : Format). selected_symbols which section f file) is

pub unknown_too : (file bytes : List ℕ) → format_of file ≡ formats.Unknown → bytes ≡ first_bytes file → format_of bytes ≡ formats.Unknown
unknown_too file bytes unknown is = ap format_of is ∙ format_of_beginning file ∙ unknown

-- any section can be selected in it
unknown_taken : (section : Option (List ℕ)) → is_taken section formats.Unknown ≡ true
unknown_taken None = refl
unknown_taken (Some name) = refl

-- by any symbol table
unknown_table : (which : SymbolTable) (file : List ℕ) → has_table which formats.Unknown file ≡ Ok true
unknown_table Symtab file = refl
unknown_table Dynsym file = refl

unless_none : (bare : Bool) (which : SymbolTable) → answer_unless bare which None ≡ None
unless_none true which = refl
unless_none false which = refl

pub no_taken : (which : SymbolTable) (file : List ℕ) (section : Option (List ℕ)) → format_of file ≡ formats.Unknown → answer_taken which file section ≡ None
no_taken which file section is =
    let bare = is_bare which file section in
    ap (λ (b : Bool). if b then answer_with (has_table which (format_of file) file) (answer_unless bare which (selected_answer which section file)) else Some (Err symbols_section_is_missing)) (ap (is_taken section) is ∙ unknown_taken section)
    ∙ ap (λ (has : Result Bool Refusal). answer_with has (answer_unless bare which (selected_answer which section file))) (ap (λ (f : Format). has_table which f file) is ∙ unknown_table which file)
    ∙ ap (answer_unless bare which) (no_answer which file section is) ∙ unless_none bare which

no_shown : (asked : Request) (file : List ℕ) → format_of file ≡ formats.Unknown → answer_for asked.symbols file ≡ None
no_shown asked file is = no_taken asked.symbols.which file (section_of asked.symbols.selection) is

-- a text of what was read of a file is one of the file
pub text_of_file : (asked : Request) (path file bytes text : List ℕ) → IsReadOf file bytes → IsShownText asked path bytes text → IsShownText asked path file text
text_of_file asked path file bytes text (inl same) is = subst (λ (f : List ℕ). IsShownText asked path f text) same is
text_of_file asked path file bytes text (inr (unknown, first)) is =
    absurd (subst (λ (answer : Option (Result SelectedSymbols Refusal)). IsDue (IsAskedText asked path) answer text) (no_shown asked bytes (unknown_too file bytes unknown first)) is)

-- a text is due of a file that has an answer
answered : (asked : Request) (path : List ℕ) (answer : Option (Result SelectedSymbols Refusal)) (text : List ℕ) → IsDue (IsAskedText asked path) answer text → (selected : SelectedSymbols) × (answer ≡ Some (Ok selected))
answered asked path (Some (Ok selected)) text due = (selected, refl)
answered asked path (Some (Err refusal)) text due = absurd due
answered asked path None text due = absurd due

-- the sums that were found are those of this answer
pub sums_of : (asked : Request) (path file text : List ℕ) (seen : Seen) → IsShownText asked path file text → ((selected : SelectedSymbols) → answer_for asked.symbols file ≡ Some (Ok selected) → IsSeenOf asked.kind (limits_of asked) selected seen)
    → HasSumsOf asked file seen.sums
sums_of asked path file text seen due is =
    let found = answered asked path (answer_for asked.symbols file) text due in (found.0, found.1, (is found.0 found.1).sums_are)

-- so is what is said of limits on their rows
pub rows_of : (asked : Request) (path file text : List ℕ) (seen : Seen) → IsShownText asked path file text → ((selected : SelectedSymbols) → answer_for asked.symbols file ≡ Some (Ok selected) → IsSeenOf asked.kind (limits_of asked) selected seen)
    → HasRowsOf asked file (map finding_view seen.rows.items)
rows_of asked path file text seen due is =
    let found = answered asked path (answer_for asked.symbols file) text due in (found.0, found.1, (is found.0 found.1).rows_are)

-- and whether it has no function symbol
pub none_of : (asked : Request) (path file text : List ℕ) (seen : Seen) → IsShownText asked path file text → ((selected : SelectedSymbols) → answer_for asked.symbols file ≡ Some (Ok selected) → IsSeenOf asked.kind (limits_of asked) selected seen)
    → seen.is_empty ≡ has_none asked.symbols file
none_of asked path file text seen due is =
    let found = answered asked path (answer_for asked.symbols file) text due in
    (is found.0 found.1).empty_is ∙ ap (λ (answer : Option (Result SelectedSymbols Refusal)). nat_eq (count_of answer) 0) (sym found.1)

-- what is found of what was read of a file, and said of it, is that of the file
found_of_file : (asked : Request) (file bytes : List ℕ) (sums : Option Sums) (rows : List Found) (said : List (List ℕ)) → IsReadOf file bytes → HasSumsOf asked bytes sums → HasRowsOf asked bytes rows → IsSaidOfShown asked bytes sums rows said
    → IsFoundIn asked file said (exceeds asked.limit sums || are_above rows)
found_of_file asked file bytes sums rows said (inl same) has have says =
    (sums, rows, subst (λ (f : List ℕ). HasSumsOf asked f sums) same has, subst (λ (f : List ℕ). HasRowsOf asked f rows) same have, subst (λ (f : List ℕ). IsSaidOfShown asked f sums rows said) same says, refl)
found_of_file asked file bytes sums rows said (inr (unknown, first)) (selected, answer, is) have says =
    let never : Path (Option (Result SelectedSymbols Refusal)) None (Some (Ok selected)) = sym (no_shown asked bytes (unknown_too file bytes unknown first)) ∙ answer in absurd cc

-- a file of an unknown format has no dynamic function symbols
no_dynamic : (file : List ℕ) → format_of file ≡ formats.Unknown → dynamic_in file ≡ None
no_dynamic file is = ap (λ (answer : Option (Result SelectedSymbols Refusal)). dynamic_by (count_of answer)) (no_taken Dynsym file None is)

no_debug : (file : List ℕ) → format_of file ≡ formats.Unknown → debug_of file ≡ Some (codes "a .pdb file, if it is an MSVC program")
no_debug file is = ap (λ (f : Format). debug_as f file) is

-- nor a section of function descriptors
no_descriptors : (file : List ℕ) → format_of file ≡ formats.Unknown → lacks_descriptors file ≡ false
unfolding sections_of bytes_named
no_descriptors file is = ap (λ (f : Format). has_no_bytes (bytes_named (sections_of f file) file (codes ".opd"))) is

no_stripped : (bare : Bool) (file : List ℕ) → format_of file ≡ formats.Unknown → stripped_in bare file ≡ stripped_words (Some (codes "a .pdb file, if it is an MSVC program"))
no_stripped true file is =
    ap (λ (b : Bool). if b then hint_words Descriptors ∷ [] else stripped_words (debug_of file)) (no_descriptors file is) ∙ ap stripped_words (no_debug file is)
no_stripped false file is = ap stripped_words (no_debug file is)

-- what is said of what was read of a file that is refused is what is said of the file
pub said_of_file : (fault : Fault) (file bytes : List ℕ) (said : List (List ℕ)) → IsReadOf file bytes → IsSaidOfRefused fault bytes said → IsSaidOfRefused fault file said
said_of_file fault file bytes said (inl same) says = subst (λ (f : List ℕ). IsSaidOfRefused fault f said) same says
said_of_file fault file bytes said (inr (unknown, first)) (dynamic, debug, one, other, is) =
    let less = unknown_too file bytes unknown first in
    let same_dynamic : dynamic_in bytes ≡ dynamic_in file = no_dynamic bytes less ∙ sym (no_dynamic file unknown) in
    let bare = is_bare_fault fault in
    let same_debug : stripped_in bare bytes ≡ stripped_in bare file = no_stripped bare bytes less ∙ sym (no_stripped bare file unknown) in (
      dynamic,
      debug,
      subst (λ (d : Option Hint). IsOrNone (words_of (if is_stripped fault then d else None)) dynamic) same_dynamic one,
      subst (λ (said : List (List ℕ)). IsOrNone (if is_stripped fault then said else []) debug) same_debug other,
      is,
    )

-- of a file of an unknown format that is reported, and nothing else
ends_of_file : (asked : Request) (file bytes : List ℕ) (o : Outcome) → IsReadOf file bytes → Ends asked bytes o → Ends asked file o
ends_of_file asked file bytes o (inl same) ends = subst (λ (f : List ℕ). Ends asked f o) same ends
ends_of_file asked file bytes o (inr (unknown, first)) ends =
    let EndsBy : List ℕ → Option (Result SelectedSymbols Refusal) → Type 0 = λ f answer. EndsAs (Fits asked.kind) (MemoryFor asked.symbols f) answer o in
    subst (EndsBy file) (sym (no_shown asked file unknown)) (subst (EndsBy bytes) (no_shown asked bytes (unknown_too file bytes unknown first)) ends)

-- the showing of what was read of a file ends as that of the file may
pub end_of_file : (P Q : Type 0) → (P → Q) → (asked : Request) (file bytes : List ℕ) (o : Outcome) → IsReadOf file bytes → MayEnd P asked bytes o → MayEnd Q asked file o
end_of_file P Q more asked file bytes o read (inl (may, is)) = inl (more may, is)
end_of_file P Q more asked file bytes o read (inr (inl is)) = inr (inl is)
end_of_file P Q more asked file bytes o read (inr (inr ends)) = inr (inr (ends_of_file asked file bytes o read ends))

-- a call about a file is never wrong in itself
no_usage : {L : Type 0} (fits : L → Type 0) (memory : Result L Refusal → Type 0) (answer : Option (Result L Refusal)) → EndsAs fits memory answer wrong_usage → ⊥
no_usage fits memory None is = cc
no_usage fits memory (Some (Err refusal)) (inl is) = cc
no_usage fits memory (Some (Err refusal)) (inr (needs, is)) = cc
no_usage fits memory (Some (Ok listed)) (inl is) = cc
no_usage fits memory (Some (Ok listed)) (inr (inl (may, inl is))) = cc
no_usage fits memory (Some (Ok listed)) (inr (inl (may, inr is))) = cc
no_usage fits memory (Some (Ok listed)) (inr (inr (never, is))) = cc

never_wrong : (MayFail : Type 0) (asked : Request) (file : List ℕ) → MayEnd MayFail asked file wrong_usage → ⊥
never_wrong MayFail asked file (inl (may, is)) = cc
never_wrong MayFail asked file (inr (inl is)) = cc
never_wrong MayFail asked file (inr (inr ends)) = no_usage (Fits asked.kind) (MemoryFor asked.symbols file) (answer_for asked.symbols file) ends

-- what is left of a heading precedes the text
pub after_heading : (old mid : Option (List ℕ)) (left text : List ℕ) → Appends (option_map (λ b. b ++ left) old) mid text → Appends old mid (left ++ text)
after_heading None mid left text is = tt
after_heading (Some a) None left text is = absurd is
after_heading (Some a) (Some b) left text is = is ∙ append_assoc a left text

pub beginning_after : (old taken : Option (List ℕ)) (left text : List ℕ) → AppendsBeginning (option_map (λ b. b ++ left) old) taken text → AppendsBeginning old taken (left ++ text)
beginning_after old taken left text (beginning, others, is, begins) =
    (left ++ beginning, others, ap (λ (z : List ℕ). left ++ z) is ∙ sym (append_assoc left beginning others), after_heading old taken left beginning begins)

-- a text whose heading is written is written
pub whole : (old mid new : Option (List ℕ)) (left none text : List ℕ) → Appends (option_map (λ b. b ++ left) old) mid text → Keeps mid (option_map (λ b. b ++ none) new) → none ≡ [] → Appends old new (left ++ text)
whole None mid new left none text took kept is = tt
whole (Some a) None new left none text took kept is = absurd took
whole (Some a) (Some b) None left none text took kept is = absurd kept
whole (Some a) (Some b) (Some c) left none text took kept is =
    sym (append-nil c) ∙ ap (λ (z : List ℕ). c ++ z) (sym is) ∙ kept ∙ took ∙ append_assoc a left text

pub whole_taken : (old mid taken : Option (List ℕ)) (left text : List ℕ) → Appends (option_map (λ b. b ++ left) old) mid text → Keeps mid taken → AppendsBeginning old taken (left ++ text)
whole_taken old mid taken left text took kept = (left ++ text, [], sym (append-nil (left ++ text)), by old mid taken took kept)
  where
    by : (old mid taken : Option (List ℕ)) → Appends (option_map (λ b. b ++ left) old) mid text → Keeps mid taken → Appends old taken (left ++ text)
    by None mid taken took kept = tt
    by (Some a) None taken took kept = absurd took
    by (Some a) (Some b) None took kept = absurd kept
    by (Some a) (Some b) (Some c) took kept = kept ∙ took ∙ append_assoc a left text

-- a fault is a failure
pub never_written : (e : Fault) → failure e ≢ writing.written
never_written (Report sums.Unknown) is = cc
never_written (Report (sums.Parse p)) is = cc
never_written (Report sums.OutOfMemory) is = cc
never_written (Report sums.TooLarge) is = cc
never_written (Report sums.Write) is = cc
never_written (Section sections.Unknown) is = cc
never_written (Section (sections.Parse p)) is = cc
never_written (Section sections.NoSection) is = cc
never_written (Section sections.NoBytes) is = cc
never_written (Section sections.PastEnd) is = cc
never_written (Section sections.OutOfMemory) is = cc
never_written (Section sections.Write) is = cc
never_written (Section sections.Unreadable) is = cc
never_written (Stream stream.Read) is = cc
never_written (Stream stream.Write) is = cc
never_written (Stream stream.OutOfMemory) is = cc
never_written (Unsupported kind) is = cc
never_written NotUtf8 is = cc
never_written SharedAddresses is = cc
never_written (Unplaced words) is = cc
never_written (Missing count) is = cc

-- a fault of the whole call is none of the file
of_call : (e : Fault) → is_of_call e ≡ true → failure e ≡ wrong_usage
of_call (Report e) is = absurd cc
of_call (Section e) is = absurd cc
of_call (Stream e) is = absurd cc
of_call (Unsupported kind) is = absurd cc
of_call NotUtf8 is = absurd cc
of_call SharedAddresses is = absurd cc
of_call (Unplaced words) is = absurd cc
of_call (Missing count) is = refl

module _ {W : Type 0} (contents : W → Option (List ℕ)) (asked : Request) (path : List ℕ) (MayFail : Type 0) (file : List ℕ) (old mid : Output W) where
  -- a file whose showing failed
  unshown : (o : Outcome) → o ≢ writing.written → MayEnd MayFail asked file o → TakesText asked path file (taken contents old) (taken contents mid) o → Leaves old mid o
      → FailsAs asked path MayFail file (pending old) (contents (writer_of old)) (contents (writer_of mid)) (taken contents mid) o
  unshown writing.write_failed other ends (text, due, begins) leaves = (text, due, beginning_after (contents (writer_of old)) (taken contents mid) (pending old) text begins)
  unshown writing.written other ends takes leaves = absurd (other refl)
  unshown writing.unknown_format other ends takes leaves = (ends, ap (λ (s : Output W). contents (writer_of s)) leaves)
  unshown (writing.refused refusal) other ends takes leaves = (ends, ap (λ (s : Output W). contents (writer_of s)) leaves)
  unshown writing.no_memory other ends takes leaves = (ends, ap (λ (s : Output W). contents (writer_of s)) leaves)
  unshown writing.too_large other ends takes leaves = (ends, ap (λ (s : Output W). contents (writer_of s)) leaves)
  unshown writing.unreadable other ends takes leaves = (ends, ap (λ (s : Output W). contents (writer_of s)) leaves)
  unshown writing.wrong_usage other ends takes leaves = (ends, ap (λ (s : Output W). contents (writer_of s)) leaves)

  abbrev pub Held : Output W → Result Seen Fault → Type 0
  Held new result = ShowsSource asked path MayFail file (pending old) (contents (writer_of old)) (contents (writer_of new)) (taken contents new) result

  -- a file that is shown, and its heading written
  pub was_shown : (new : Output W) (seen : Seen) → (text : List ℕ) × IsShownText asked path file text × Appends (taken contents old) (taken contents mid) text → Keeps (taken contents mid) (taken contents new) → pending new ≡ []
      → ((selected : SelectedSymbols) → answer_for asked.symbols file ≡ Some (Ok selected) → IsSeenOf asked.kind (limits_of asked) selected seen) → Held new (Ok seen)
  was_shown new seen (text, due, took) kept none is =
      ((text, due, whole (contents (writer_of old)) (taken contents mid) (contents (writer_of new)) (pending old) (pending new) text took kept none), sums_of asked path file text seen due is, rows_of asked path file text seen due is, none_of asked path file text seen due is)

  -- the same, where the writing of the heading failed, as `?` passes the fault on
  pub broke_off : (new : Output W) (e : Fault) (result : Result Seen Fault) → IsErrAnd result (λ f. f ≡ e) → (text : List ℕ) × IsShownText asked path file text × Appends (taken contents old) (taken contents mid) text
      → Keeps (taken contents mid) (taken contents new) → failure e ≡ writing.write_failed → Held new result
  broke_off new e (Ok seen) err took kept is = absurd err
  broke_off new e (Err f) err (text, due, took) kept is =
      subst (λ (f : Fault). Held new (Err f)) (sym err)
      (subst (λ (o : Outcome). FailsAs asked path MayFail file (pending old) (contents (writer_of old)) (contents (writer_of new)) (taken contents new) o) (sym is)
      (text, due, whole_taken (contents (writer_of old)) (taken contents mid) (taken contents new) (pending old) text took kept))

  -- a file whose showing failed, as `?` passes the fault on
  pub show_failed : (e : Fault) (result : Result Seen Fault) → IsErrAnd result (λ f. f ≡ e) → MayEnd MayFail asked file (failure e) → TakesText asked path file (taken contents old) (taken contents mid) (failure e) → Leaves old mid (failure e) → Held mid result
  show_failed e (Ok x) is ends takes leaves = absurd is
  show_failed e (Err f) is ends takes leaves = subst (λ (f : Fault). Held mid (Err f)) (sym is) (unshown (failure e) (never_written e) ends takes leaves)

-- the hints on a file that is shown, and on one that is refused
words_are : (found : List Finding) → map finding_words found ≡ map found_words (map finding_view found)
words_are [] = refl
words_are (f ∷ found) = ap (λ (said : List (List ℕ)). finding_words f ∷ said) (words_are found)

pub said_shown : (asked : Request) (file : List ℕ) (sums : Option Sums) (rows : List Finding) (hints : Hints) → IsOrNone (words_of (lack_in asked.symbols file)) (words_of hints.first) → hints.second ≡ unknown_for asked.kind sums → hints.excess ≡ excess_of asked.limit sums
    → hints.rows.items ≡ rows → IsSaidOfShown asked file sums (map finding_view rows) (all_words hints)
said_shown asked file sums rows hints first second excess are =
    let more = map finding_words hints.rows.items in (
      words_of hints.first,
      first,
      ap (λ (h : Option Hint). words_of hints.first ++ (words_of h ++ (words_of hints.excess ++ more))) second
          ∙ ap (λ (h : Option Hint). words_of hints.first ++ (words_of (unknown_for asked.kind sums) ++ (words_of h ++ more))) excess
          ∙ ap (λ (said : List (List ℕ)). words_of hints.first ++ (words_of (unknown_for asked.kind sums) ++ (words_of (excess_of asked.limit sums) ++ said))) (ap (map finding_words) are ∙ words_are rows),
    )

pub said_refused : (fault : Fault) (file : List ℕ) (hints : Hints) → IsOrNone (words_of (dynamic_for fault file)) (words_of hints.first) → IsOrNone (stripped_for fault file) (words_of hints.second) → hints.excess ≡ None → hints.rows.items ≡ [] → IsSaidOfRefused fault file (all_words hints)
said_refused fault file hints first second none no_rows = (
  words_of hints.first,
  words_of hints.second,
  first,
  second,
  ap (λ (h : Option Hint). words_of hints.first ++ (words_of hints.second ++ (words_of h ++ map finding_words hints.rows.items))) none
      ∙ ap (λ (rows : List Finding). words_of hints.first ++ (words_of hints.second ++ map finding_words rows)) no_rows
      ∙ ap (λ (said : List (List ℕ)). words_of hints.first ++ said) (append-nil (words_of hints.second)),
)

module _ (files : Files) (path : List ℕ) (old new : State) where
  abbrev pub One : Result Verdict Fault → Type 0
  One result = ShowsOne files (utf8 path) old new result

  was_refused : (fault : Fault) (result : Result Verdict Fault) (said : List (List ℕ)) → MayBeRefused files.asked (files.may_fail path) (files.held path) fault → IsSaidOfRefused fault (files.held path) said → new.bytes ≡ old.bytes
      → (result ≡ Ok (record { is_done = false; is_above = false })) × Reports old.reports new.reports ((path, fault) ∷ []) → Grows old.hints new.hints (hinted path said) → One result
  was_refused fault result said may says same (is, answered_lines) gave = subst One (sym is) (refused fault said, (may, says), refl, unwritten old.bytes new.bytes same, answered_lines, gave)
    where
      unwritten : (old new : Option (List ℕ)) → new ≡ old → Appends old new []
      unwritten None new same = tt
      unwritten (Some a) new same = subst (λ (n : Option (List ℕ)). Appends (Some a) n []) (sym same) (sym (append-nil a))

  -- a file that can't be opened or read, or that no reader reads
  pub unopened : (fault : Fault) → IsForeign (files.held path) fault ⊎ IsUnreadable (files.may_fail path) (files.held path) fault → new.bytes ≡ old.bytes → Reports old.reports new.reports ((path, fault) ∷ []) → Grows old.hints new.hints []
      → One (Ok (record { is_done = false; is_above = false }))
  unopened fault (inl is) same answered_lines gave = was_refused fault (Ok (record { is_done = false; is_above = false })) [] (inl is) ([], [], inr refl, inr refl, refl) same (refl, answered_lines) gave
  unopened fault (inr is) same answered_lines gave = was_refused fault (Ok (record { is_done = false; is_above = false })) [] (inr (inl is)) ([], [], inr refl, inr refl, refl) same (refl, answered_lines) gave

  module _ (bytes left : List ℕ) (MayFail : Type 0) (read : IsReadOf (files.held path) bytes) (more : MayFail → files.may_fail path ≡ true) (is : left ≡ heading files.are_several path) (native : foreign_in (files.held path) ≡ None) where
    abbrev May : Outcome → Type 0
    May o = MayEnd MayFail files.asked bytes o

    -- a file whose showing failed before its first write
    not_shown : (fault : Fault) (result : Result Verdict Fault) (o : Outcome) (call : Bool) → o ≢ writing.write_failed → failure fault ≡ o → is_of_call fault ≡ call → May o × (new.bytes ≡ old.bytes) → ReportsFault path old.reports new.reports fault (not call) result → HintsFault path old.hints new.hints fault (not call) bytes → One result
    not_shown fault result o true other is_o is_call (ends, same) reports hints = absurd (never_wrong MayFail files.asked bytes (subst May (sym is_o ∙ of_call fault is_call) ends))
    not_shown fault result o false other is_o is_call (ends, same) reports (said, says, gave) =
        was_refused fault result said (inr (inr (
          native,
          λ e. other (sym is_o ∙ e),
          end_of_file MayFail ((files.may_fail path ≡ true) ⊎ (files.held path ≡ [])) (λ m. inl (more m)) files.asked (files.held path) bytes (failure fault) read (subst May (sym is_o) ends),
        ))) (said_of_file fault (files.held path) bytes said read says) same reports gave

    -- a file whose showing failed
    pub failed : (fault : Fault) (result : Result Verdict Fault) (o : Outcome) (call : Bool) → failure fault ≡ o → is_of_call fault ≡ call → FailsAs files.asked path MayFail bytes left old.bytes new.bytes new.taken o
        → ReportsFault path old.reports new.reports fault (not (is_failed_write o || call)) result → HintsFault path old.hints new.hints fault (not (is_failed_write o || call)) bytes → One result
    failed fault result writing.write_failed call is_o is_call (text, due, wrote) (err, reports) gave =
        subst One (sym err) (inl (is_o, (text, (native, text_of_file files.asked path (files.held path) bytes text read due), subst (λ (h : List ℕ). AppendsBeginning old.bytes new.taken (h ++ text)) is wrote)), reports, gave)
    failed fault result writing.written call is_o is_call fails reports hints = not_shown fault result writing.written call (λ e. cc) is_o is_call fails reports hints
    failed fault result writing.unknown_format call is_o is_call fails reports hints = not_shown fault result writing.unknown_format call (λ e. cc) is_o is_call fails reports hints
    failed fault result (writing.refused refusal) call is_o is_call fails reports hints = not_shown fault result (writing.refused refusal) call (λ e. cc) is_o is_call fails reports hints
    failed fault result writing.no_memory call is_o is_call fails reports hints = not_shown fault result writing.no_memory call (λ e. cc) is_o is_call fails reports hints
    failed fault result writing.too_large call is_o is_call fails reports hints = not_shown fault result writing.too_large call (λ e. cc) is_o is_call fails reports hints
    failed fault result writing.unreadable call is_o is_call fails reports hints = not_shown fault result writing.unreadable call (λ e. cc) is_o is_call fails reports hints
    failed fault result writing.wrong_usage call is_o is_call fails reports hints = not_shown fault result writing.wrong_usage call (λ e. cc) is_o is_call fails reports hints

    -- a file that is shown
    pub came_to : (seen : Seen) (is_above : Bool) (said : List (List ℕ)) → ShowsSource files.asked path MayFail bytes left old.bytes new.bytes new.taken (Ok seen) → is_above ≡ (exceeds files.asked.limit seen.sums || are_above (map finding_view seen.rows.items))
        → (seen.is_empty ≡ has_none files.asked.symbols bytes → IsSaidOfShown files.asked bytes seen.sums (map finding_view seen.rows.items) said) → Reports old.reports new.reports [] → Grows old.hints new.hints (hinted path said) → One (Ok (record { is_done = true; is_above = is_above }))
    came_to seen is_above said ((text, due, wrote), sums, rows, none) above says answered_lines gave =
        subst (λ (b : Bool). One (Ok (record { is_done = true; is_above = b }))) (sym above) (
          shown text said (exceeds files.asked.limit seen.sums || are_above (map finding_view seen.rows.items)),
          ((native, text_of_file files.asked path (files.held path) bytes text read due), found_of_file files.asked (files.held path) bytes seen.sums (map finding_view seen.rows.items) said read sums rows (says none)),
          refl,
          subst (λ (h : List ℕ). Appends old.bytes new.bytes (h ++ text)) is wrote,
          answered_lines,
          gave,
        )

-- an argument that isn't UTF-8 is refused, and nothing is written or said
pub not_utf8 : (files : Files) (at : ℕ) (old new : State) (result : Result Verdict Fault) → RefusesArgument at old.reports new.reports result → Appends old.bytes new.bytes [] → Grows old.hints new.hints [] → ShowsOne files (no_utf8 at) old new result
not_utf8 files at old new (Ok verdict) (is, answered_lines) wrote gave = (refused NotUtf8 [], refl, is, wrote, answered_lines, gave)
not_utf8 files at old new (Err e) (is, answered_lines) wrote gave = (inr (is, wrote), answered_lines, gave)
