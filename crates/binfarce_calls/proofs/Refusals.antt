-- Why a file has no sums, by the error of a step.
use Rattle.std.proofs.Common.{◌≡◌, ◌≢◌, ◌∙◌, ◌⊎◌, inl, inr, Bool, true, false, ℕ, List, [], ◌∷◌, Option, Some, None, Result, Ok, Err, refl, sym, ap, subst, length}
use Rattle.binfarce_bytes.specs.Format.{format_of}
use Rattle.binfarce_bytes.specs.Refusal.{Refusal, refusal_of}
use Rattle.binfarce_bytes.specs.SectionEntries.{SelectedSymbols}
use Rattle.binfarce_bytes.specs.Walk.{Walk}
use Rattle.binfarce_bytes.specs.Selection.{section_of}
use Rattle.binfarce_bytes.specs.declared.format.Format.{Format}
use Rattle.binfarce_bytes.specs.declared.format.Format.TheVariants as formats
use Rattle.binfarce_figures.specs.Claimed.{AreClaimsFor, AreClaimsIn, Claimed, IsFaultOf}
use Rattle.binfarce_figures.specs.Claims.{SumFits}
use Rattle.binfarce_sections.specs.Results.{SumsUp}
use Rattle.binfarce_sections.specs.Section.{Section, sections_of}
use Rattle.binfarce_sections.specs.Sums.{FileSums}
use Rattle.binfarce_sections.specs.Tables as sections
use Rattle.binfarce_sections.specs.declared.error.SectionError.{SectionError}
use Rattle.binfarce_sections.specs.declared.error.SectionError.TheVariants as errors
use Rattle.binfarce_tables.specs.declared.error.ReadError.{ReadError}
use Rattle.binfarce_tables.specs.declared.error.ReadError.TheVariants.{Refused, Unreadable, OutOfMemory}
use Rattle.binfarce_tools.specs.Answer.{MemoryIn, selected_answer}
use Rattle.binfarce_tools.specs.ReportWords.{outcome_of}
use Rattle.binfarce_tools.specs.Tables.{ReadsAs}
use Rattle.binfarce_tools.specs.Writing.{EndsAs, Outcome, no_memory, write_failed, written}
use Rattle.binfarce_tools.specs.declared.report.ReportError.{ReportError}
use Rattle.binfarce_tools.specs.declared.report.ReportError.TheVariants as reports
use Rattle.binfarce_tools.specs.declared.tables.Tables.{Tables}
use Rattle.binfarce_io.specs.Faults.{failure, is_of_file, read_fault}
use Rattle.binfarce_jobs.specs.Files.{Grows, Hinted, HintsFault, Refused as Reported, Reports, ReportsFault, hinted}
use Rattle.binfarce_foreign.specs.Foreign.{foreign_in}
use Rattle.binfarce_io.specs.Input.{IsForeign, IsReadOf, IsUnreadable}
use Rattle.binfarce_jobs.specs.Show.{AreTablesFor, answer_for}
use Rattle.binfarce_io.specs.declared.fault.Fault.{Fault}
use Rattle.binfarce_io.specs.declared.fault.Fault.TheVariants as faults
use Rattle.binfarce_jobs.specs.declared.limit.Verdict.{Verdict}
use Rattle.binfarce_jobs.specs.declared.show.Symbols.{Symbols}
use Rattle.binfarce_jobs.proofs.FileFates.{never_written, no_taken, said_of_file, unknown_too}
use Rattle.binfarce_jobs.proofs.FileLoop.{grows_unless}
use Rattle.binfarce_calls.specs.Summed.{HasNoSections, HasNoSum, HasSections, IsUnsummed, IsUnwalked, MayBeRefused}
use Rattle.binfarce_calls.specs.machine.Steps.{IsRefused, Messages}

-- a file of an unknown format has no answer, and no sections
no_symbols : (symbols : Symbols) (file : List ℕ) → format_of file ≡ formats.Unknown → answer_for symbols file ≡ None
no_symbols symbols file is = no_taken symbols.which file (section_of symbols.selection) is

pub no_walk : (file : List ℕ) → format_of file ≡ formats.Unknown → sections_of (format_of file) file ≡ None
unfolding sections_of
no_walk file is = ap (λ (f : Format). sections_of f file) is

-- what is read of a file is the file, or begins one of an unknown format as itself
pub both_unknown : (file part : List ℕ) → IsReadOf file part → (part ≡ file) ⊎ ((format_of file ≡ formats.Unknown) × (format_of part ≡ formats.Unknown))
both_unknown file part (inl same) = inl same
both_unknown file part (inr (unknown, first)) = inr (unknown, unknown_too file part unknown first)

-- so its answer, and its sections, are those of what is read
pub same_answer : (symbols : Symbols) (file part : List ℕ) → IsReadOf file part → answer_for symbols part ≡ answer_for symbols file
same_answer symbols file part read = by (both_unknown file part read)
  where
    by : (part ≡ file) ⊎ ((format_of file ≡ formats.Unknown) × (format_of part ≡ formats.Unknown)) → answer_for symbols part ≡ answer_for symbols file
    by (inl same) = ap (answer_for symbols) same
    by (inr (unknown, less)) = no_symbols symbols part less ∙ sym (no_symbols symbols file unknown)

pub same_walk : (file part : List ℕ) → IsReadOf file part → sections_of (format_of part) part ≡ sections_of (format_of file) file
same_walk file part read = by (both_unknown file part read)
  where
    by : (part ≡ file) ⊎ ((format_of file ≡ formats.Unknown) × (format_of part ≡ formats.Unknown)) → sections_of (format_of part) part ≡ sections_of (format_of file) file
    by (inl same) = ap (λ (f : List ℕ). sections_of (format_of f) f) same
    by (inr (unknown, less)) = no_walk part less ∙ sym (no_walk file unknown)

-- a file whose function symbols are read is read whole
pub whole_file : (symbols : Symbols) (file part : List ℕ) (selected : SelectedSymbols) → IsReadOf file part → answer_for symbols part ≡ Some (Ok selected) → part ≡ file
whole_file symbols file part selected (inl same) is = same
whole_file symbols file part selected (inr (unknown, first)) is =
    let never : Path (Option (Result SelectedSymbols Refusal)) None (Some (Ok selected)) = sym (no_symbols symbols part (unknown_too file part unknown first)) ∙ is in absurd cc

-- why the tables for function symbols can't be read
pub unread : (symbols : Symbols) (may_fail : Bool) (May : Type 0) (file part : List ℕ) (e : ReadError) → foreign_in file ≡ None → IsReadOf file part → (May → may_fail ≡ true)
    → ReadsAs (AreTablesFor symbols part) May (answer_for symbols part) (Err e) → MayBeRefused (HasNoSum symbols) may_fail file (read_fault e)
unread symbols may_fail May file part (Refused e) native read more is = inr (inr (native, subst (λ (answer : Option (Result SelectedSymbols Refusal)). IsUnsummed answer (failure (read_fault (Refused e)))) (sym is ∙ same_answer symbols file part read) refl))
unread symbols may_fail May file part Unreadable native read more is = inr (inl (inr (refl, inl (more is))))
unread symbols may_fail May file part OutOfMemory native read more is = inr (inl (inl refl))

-- why an answer can't be summed
by_answer : (memory : Result SelectedSymbols Refusal → Type 0) (answer : Option (Result SelectedSymbols Refusal)) (o : Outcome) → EndsAs SumFits memory answer o → o ≢ written → o ≢ write_failed → IsUnsummed answer o ⊎ (o ≡ no_memory)
by_answer memory None o is done failed = inl is
by_answer memory (Some (Err refusal)) o (inl is) done failed = inl is
by_answer memory (Some (Err refusal)) o (inr (needs, is)) done failed = inr is
by_answer memory (Some (Ok selected)) o (inl is) done failed = inr is
by_answer memory (Some (Ok selected)) o (inr (inl (fits, inl is))) done failed = absurd (done is)
by_answer memory (Some (Ok selected)) o (inr (inl (fits, inr is))) done failed = absurd (failed is)
by_answer memory (Some (Ok selected)) o (inr (inr (never, is))) done failed = inl (never, is)

-- an error that is no failed write
not_write : (e : ReportError) → e ≢ reports.Write → outcome_of (Err e) ≢ write_failed
not_write reports.Unknown never is = cc
not_write (reports.Parse p) never is = cc
not_write reports.OutOfMemory never is = cc
not_write reports.TooLarge never is = cc
not_write reports.Write never is = absurd (never refl)

pub report_of_file : (e : ReportError) → e ≢ reports.Write → is_of_file (faults.Report e) ≡ true
report_of_file reports.Unknown never = refl
report_of_file (reports.Parse p) never = refl
report_of_file reports.OutOfMemory never = refl
report_of_file reports.TooLarge never = refl
report_of_file reports.Write never = absurd (never refl)

pub read_of_file : (e : ReadError) → is_of_file (read_fault e) ≡ true
read_of_file (Refused p) = refl
read_of_file Unreadable = refl
read_of_file OutOfMemory = refl

pub section_of_file : (e : SectionError) → e ≢ errors.Write → is_of_file (faults.Section e) ≡ true
section_of_file errors.Unknown never = refl
section_of_file (errors.Parse p) never = refl
section_of_file errors.NoSection never = refl
section_of_file errors.NoBytes never = refl
section_of_file errors.PastEnd never = refl
section_of_file errors.OutOfMemory never = refl
section_of_file errors.Write never = absurd (never refl)
section_of_file errors.Unreadable never = refl

pub unsummed : (symbols : Symbols) (may_fail : Bool) (file part : List ℕ) (tables : Tables) (e : ReportError) → foreign_in file ≡ None → IsReadOf file part → AreTablesFor symbols part tables → IsFaultOf symbols.which part (section_of symbols.selection) e → e ≢ reports.Write
    → MayBeRefused (HasNoSum symbols) may_fail file (faults.Report e)
unsummed symbols may_fail file part tables e native read are fault never = by (by_answer (MemoryIn part (section_of symbols.selection)) (selected_answer symbols.which (section_of symbols.selection) part) (failure (faults.Report e)) fault (never_written (faults.Report e)) (not_write e never))
  where
    by : IsUnsummed (selected_answer symbols.which (section_of symbols.selection) part) (failure (faults.Report e)) ⊎ (failure (faults.Report e) ≡ no_memory) → MayBeRefused (HasNoSum symbols) may_fail file (faults.Report e)
    by (inr is) = inr (inl (inl is))
    by (inl is) = inr (inr (native, subst (λ (answer : Option (Result SelectedSymbols Refusal)). IsUnsummed answer (failure (faults.Report e))) (sym are.1 ∙ same_answer symbols file part read) is))

-- claims of what is read of a file are those of the file
pub claims_of_file : (symbols : Symbols) (file part : List ℕ) (tables : Tables) (claims : Claimed) → IsReadOf file part → AreTablesFor symbols part tables → AreClaimsIn symbols.which part (section_of symbols.selection) claims
    → (selected : SelectedSymbols) × (part ≡ file) × (answer_for symbols file ≡ Some (Ok selected)) × (selected_answer symbols.which (section_of symbols.selection) file ≡ Some (Ok selected)) × AreClaimsFor selected claims
claims_of_file symbols file part tables claims read are (selected, answer, for) =
    let same = whole_file symbols file part selected read (are.1 ∙ answer) in (
      selected,
      same,
      subst (λ (f : List ℕ). answer_for symbols f ≡ Some (Ok selected)) same (are.1 ∙ answer),
      subst (λ (f : List ℕ). selected_answer symbols.which (section_of symbols.selection) f ≡ Some (Ok selected)) same answer,
      for,
    )

-- why the tables of sections can't be read
pub sections_unread : (may_now may_fail : Bool) (file part : List ℕ) (e : ReadError) → foreign_in file ≡ None → IsReadOf file part → (may_now ≡ true → may_fail ≡ true) → sections.ReadsTables may_now part (Err e)
    → MayBeRefused HasNoSections may_fail file (read_fault e)
sections_unread may_now may_fail file part (Refused e) native read more is =
    inr (inr (native, subst (λ (walk : Option (Walk Section)). IsUnwalked walk (failure (read_fault (Refused e)))) (sym is ∙ same_walk file part read) (refusal_of e, refl, refl)))
sections_unread may_now may_fail file part Unreadable native read more is = inr (inl (inr (refl, inl (more is))))
sections_unread may_now may_fail file part OutOfMemory native read more is = inr (inl (inl refl))

-- why sections can't be summed
unwalked : (n : ℕ) (walk : Option (Walk Section)) (e : SectionError) → SumsUp n walk (Err e) → IsUnwalked walk (failure (faults.Section e)) ⊎ (failure (faults.Section e) ≡ no_memory)
unwalked n None errors.Unknown is = inl refl
unwalked n None errors.OutOfMemory is = inr refl
unwalked n None (errors.Parse p) is = absurd is
unwalked n None errors.NoSection is = absurd is
unwalked n None errors.NoBytes is = absurd is
unwalked n None errors.PastEnd is = absurd is
unwalked n None errors.Write is = absurd is
unwalked n None errors.Unreadable is = absurd is
unwalked n (Some walk) errors.Unknown is = absurd is
unwalked n (Some walk) errors.OutOfMemory is = inr refl
unwalked n (Some walk) (errors.Parse p) is = inl (refusal_of p, is, refl)
unwalked n (Some walk) errors.NoSection is = absurd is
unwalked n (Some walk) errors.NoBytes is = absurd is
unwalked n (Some walk) errors.PastEnd is = absurd is
unwalked n (Some walk) errors.Write is = absurd is
unwalked n (Some walk) errors.Unreadable is = absurd is

pub sections_unsummed : (may_fail : Bool) (file part : List ℕ) (e : SectionError) → foreign_in file ≡ None → IsReadOf file part → SumsUp (length part) (sections_of (format_of part) part) (Err e) → MayBeRefused HasNoSections may_fail file (faults.Section e)
sections_unsummed may_fail file part e native read is = by (unwalked (length part) (sections_of (format_of part) part) e is)
  where
    by : IsUnwalked (sections_of (format_of part) part) (failure (faults.Section e)) ⊎ (failure (faults.Section e) ≡ no_memory) → MayBeRefused HasNoSections may_fail file (faults.Section e)
    by (inr is) = inr (inl (inl is))
    by (inl is) = inr (inr (native, subst (λ (walk : Option (Walk Section)). IsUnwalked walk (failure (faults.Section e))) (same_walk file part read) is))

-- the sums of what is read of a file are those of the file
walked : (n : ℕ) (walk : Option (Walk Section)) (sums : FileSums) → SumsUp n walk (Ok sums) → (w : Walk Section) × (walk ≡ Some w) × SumsUp n (Some w) (Ok sums)
walked n None sums is = absurd is
walked n (Some walk) sums is = (walk, refl, is)

pub sections_summed : (file part : List ℕ) (sums : FileSums) → IsReadOf file part → SumsUp (length part) (sections_of (format_of part) part) (Ok sums) → HasSections file sums
sections_summed file part sums read is =
    let found = walked (length part) (sections_of (format_of part) part) sums is in
    by (both_unknown file part read) found
  where
    by : (part ≡ file) ⊎ ((format_of file ≡ formats.Unknown) × (format_of part ≡ formats.Unknown)) → (w : Walk Section) × (sections_of (format_of part) part ≡ Some w) × SumsUp (length part) (Some w) (Ok sums) → HasSections file sums
    by (inl same) found = subst (λ (f : List ℕ). HasSections f sums) same (found.0, found.1, found.2.0, found.2.1)
    by (inr (unknown, less)) found = let never : Path (Option (Walk Section)) None (Some found.0) = sym (no_walk part less) ∙ found.1 in absurd cc

-- a file that is refused is reported, with its hints
pub was_refused : (MayBe : Fault → Type 0) (path file part : List ℕ) (before after : Messages) (fault : Fault) (of_file : Bool) (result : Result Verdict Fault) → of_file ≡ true → IsReadOf file part → MayBe fault
    → ReportsFault path before.reports after.reports fault of_file result → HintsFault path before.hints after.hints fault of_file part → IsRefused MayBe path file before after
was_refused MayBe path file part before after fault true result is read may (done, reports) (said, says, gave) = (fault, said, may, said_of_file fault file part said read says, reports, gave)
was_refused MayBe path file part before after fault false result is read may reports gave = absurd cc

-- such a fault isn't passed on
pub not_passed : (path : List ℕ) (before after : Option (List Reported)) (fault e : Fault) (of_file : Bool) (result : Result Verdict Fault) → of_file ≡ true → ReportsFault path before after fault of_file result → result ≡ Err e → ⊥
not_passed path before after fault e true result is (done, reports) err = let never : Path (Result Verdict Fault) (Ok (record { is_done = false; is_above = false })) (Err e) = sym done ∙ err in absurd cc
not_passed path before after fault e false result is reports err = absurd cc

-- a file that can't be opened or read, or that no reader reads
pub unopened : (HasNone : List ℕ → Outcome → Type 0) (may_fail : Bool) (path file : List ℕ) (before after : Messages) (fault : Fault) → IsForeign file fault ⊎ IsUnreadable may_fail file fault → Reports before.reports after.reports ((path, fault) ∷ []) → after.hints ≡ before.hints
    → IsRefused (MayBeRefused HasNone may_fail file) path file before after
unopened HasNone may_fail path file before after fault why reports same = (fault, [], may why, ([], [], inr refl, inr refl, refl), reports, grows_unless before.hints after.hints same)
  where
    may : IsForeign file fault ⊎ IsUnreadable may_fail file fault → MayBeRefused HasNone may_fail file fault
    may (inl is) = inl is
    may (inr is) = inr (inl is)

-- a step that begins where another one reported nothing and gave no hint
pub refused_since : (MayBe : Fault → Type 0) (path file : List ℕ) (start before after : Messages) → before.reports ≡ start.reports → before.hints ≡ start.hints → IsRefused MayBe path file before after → IsRefused MayBe path file start after
refused_since MayBe path file start before after reports_same hints_same (fault, said, may, says, reports, gave) = (
  fault,
  said,
  may,
  says,
  subst (λ (b : Option (List Reported)). Reports b after.reports ((path, fault) ∷ [])) reports_same reports,
  subst (λ (b : Option (List Hinted)). Grows b after.hints (hinted path said)) hints_same gave,
)
