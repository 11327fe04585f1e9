-- What is shown of the sections of a file, by what is read of it.
use Rattle.std.proofs.Common.{◌≡◌, ◌≢◌, ◌∙◌, ◌⊎◌, inl, inr, Bool, true, false, ℕ, List, [], ◌∷◌, Option, Some, None, Result, Ok, Err, IsErrAnd, refl, sym, ap, subst}
use Rattle.std.specs.Io.KnownBytes.{Appends}
use Rattle.binfarce_bytes.specs.Format.{format_of}
use Rattle.binfarce_bytes.specs.Walk.{Walk}
use Rattle.binfarce_bytes.specs.declared.format.Format.TheVariants as formats
use Rattle.binfarce_rows.specs.Json.{Style}
use Rattle.binfarce_sections.specs.Lines.{section_lines}
use Rattle.binfarce_sections.specs.Named.{Lack, bytes_named}
use Rattle.binfarce_sections.specs.Results.{TakesRead, TakesReadLines}
use Rattle.binfarce_sections.specs.Section.{Section, sections_of}
use Rattle.binfarce_sections.specs.declared.error.SectionError.{SectionError}
use Rattle.binfarce_sections.specs.declared.error.SectionError.TheVariants as errors
use Rattle.binfarce_tools.specs.Writing.{AppendsBeginning, write_failed}
use Rattle.binfarce_io.specs.Faults.{failure, is_of_file}
use Rattle.binfarce_jobs.specs.Files.{Grows, HintsFault, Reports, ReportsFault, State}
use Rattle.binfarce_io.specs.Input.{IsForeign, IsReadOf, IsUnreadable}
use Rattle.binfarce_jobs.specs.Section.{TakesAsked}
use Rattle.binfarce_io.specs.declared.fault.Fault.{Fault}
use Rattle.binfarce_io.specs.declared.fault.Fault.TheVariants as faults
use Rattle.binfarce_jobs.specs.declared.limit.Verdict.{Verdict}
use Rattle.binfarce_jobs.specs.declared.section.Asked.{Asked}
use Rattle.binfarce_jobs.specs.declared.section.Asked.TheVariants.{Bytes, Lines}
use Rattle.binfarce_jobs.proofs.FileFates.{said_of_file}
use Rattle.binfarce_calls.specs.Sections.{ShowsAsked, WritesAsked, not_done}
use Rattle.binfarce_calls.proofs.Refusals.{both_unknown, no_walk, same_walk}

-- the bytes of a section of what is read of a file are those of the file
same_bytes : (file part word : List ℕ) → IsReadOf file part → bytes_named (sections_of (format_of part) part) part word ≡ bytes_named (sections_of (format_of file) file) file word
unfolding bytes_named
same_bytes file part word read = by (both_unknown file part read)
  where
    by : (part ≡ file) ⊎ ((format_of file ≡ formats.Unknown) × (format_of part ≡ formats.Unknown)) → bytes_named (sections_of (format_of part) part) part word ≡ bytes_named (sections_of (format_of file) file) file word
    by (inl same) = ap (λ (f : List ℕ). bytes_named (sections_of (format_of f) f) f word) same
    by (inr (unknown, less)) = ap (λ (walk : Option (Walk Section)). bytes_named walk part word) (no_walk part less) ∙ sym (ap (λ (walk : Option (Walk Section)). bytes_named walk file word) (no_walk file unknown))

module _ (now may : Bool) (more : now ≡ true → may ≡ true) (old mid start new : Option (List ℕ)) (kept : (x : List ℕ) → Appends old mid x → Appends start new x) where
  -- a beginning of a text is one, too
  begins : (text : List ℕ) → AppendsBeginning old mid text → AppendsBeginning start new text
  begins text (beginning, others, is, appends) = (beginning, others, is, kept beginning appends)

  -- a source that may fail no more than a file takes what the file may
  bytes_more : (answer : Result (List ℕ) Lack) (result : Result (Unit {0}) SectionError) → TakesRead now answer old mid result → TakesRead may answer start new result
  bytes_more answer (Ok x) (bytes, is, takes) = (bytes, is, kept bytes takes)
  bytes_more answer (Err errors.Unknown) (lack, is, why, takes) = (lack, is, why, kept [] takes)
  bytes_more answer (Err (errors.Parse p)) (lack, is, why, takes) = (lack, is, why, kept [] takes)
  bytes_more answer (Err errors.NoSection) (lack, is, why, takes) = (lack, is, why, kept [] takes)
  bytes_more answer (Err errors.NoBytes) (lack, is, why, takes) = (lack, is, why, kept [] takes)
  bytes_more answer (Err errors.PastEnd) (lack, is, why, takes) = (lack, is, why, kept [] takes)
  bytes_more answer (Err errors.OutOfMemory) takes = kept [] takes
  bytes_more answer (Err errors.Write) (bytes, is, takes) = (bytes, is, begins bytes takes)
  bytes_more answer (Err errors.Unreadable) (is, takes) = (more is, kept [] takes)

  lines_more : (style : Style) (walk : Option (Walk Section)) (result : Result (Unit {0}) SectionError) → TakesReadLines style now walk old mid result → TakesReadLines style may walk start new result
  lines_more style walk (Err errors.OutOfMemory) takes = kept [] takes
  lines_more style walk (Err errors.Unreadable) (is, takes) = (more is, kept [] takes)
  lines_more style None (Ok x) (is, takes) = (is, kept [] takes)
  lines_more style None (Err errors.Unknown) (is, takes) = (is, kept [] takes)
  lines_more style None (Err (errors.Parse p)) (is, takes) = (is, kept [] takes)
  lines_more style None (Err errors.NoSection) (is, takes) = (is, kept [] takes)
  lines_more style None (Err errors.NoBytes) (is, takes) = (is, kept [] takes)
  lines_more style None (Err errors.PastEnd) (is, takes) = (is, kept [] takes)
  lines_more style None (Err errors.Write) (is, takes) = (is, kept [] takes)
  lines_more style (Some walk) (Ok x) (is, takes) = (is, kept (section_lines style walk.items) takes)
  lines_more style (Some walk) (Err errors.Unknown) takes = absurd takes
  lines_more style (Some walk) (Err (errors.Parse p)) (is, takes) = (is, kept (section_lines style walk.items) takes)
  lines_more style (Some walk) (Err errors.NoSection) takes = absurd takes
  lines_more style (Some walk) (Err errors.NoBytes) takes = absurd takes
  lines_more style (Some walk) (Err errors.PastEnd) takes = absurd takes
  lines_more style (Some walk) (Err errors.Write) takes = begins (section_lines style walk.items) takes

  -- what is taken of what is read of a file is what is taken of the file
  pub asked_of_file : (style : Style) (file part : List ℕ) (asked : Asked) (result : Result (Unit {0}) SectionError) → IsReadOf file part → TakesAsked style now part asked old mid result → TakesAsked style may file asked start new result
  asked_of_file style file part (Bytes name) result read takes =
      bytes_more (bytes_named (sections_of (format_of file) file) file name.now) result (subst (λ (answer : Result (List ℕ) Lack). TakesRead now answer old mid result) (same_bytes file part name.now read) takes)
  asked_of_file style file part Lines result read takes =
      lines_more style (sections_of (format_of file) file) result (subst (λ (walk : Option (Walk Section)). TakesReadLines style now walk old mid result) (same_walk file part read) takes)

-- a fault that is passed on is a failed write
passed_is : (e : SectionError) → is_of_file (faults.Section e) ≡ false → e ≡ errors.Write
passed_is errors.Unknown is = absurd cc
passed_is (errors.Parse p) is = absurd cc
passed_is errors.NoSection is = absurd cc
passed_is errors.NoBytes is = absurd cc
passed_is errors.PastEnd is = absurd cc
passed_is errors.OutOfMemory is = absurd cc
passed_is errors.Write is = refl
passed_is errors.Unreadable is = absurd cc

of_file_is : (e : SectionError) → is_of_file (faults.Section e) ≡ true → e ≢ errors.Write
of_file_is e is write = let never : Path Bool true false = sym is ∙ ap (λ (e : SectionError). is_of_file (faults.Section e)) write in absurd cc

module _ (asked : Asked) (style : Style) (path : List ℕ) (may_fail : Bool) (file : List ℕ) (old new : State) where
  abbrev Ended : Result Verdict Fault → Type 0
  Ended result = ShowsAsked asked style path may_fail file old new result

  -- a file that can't be opened or read, or that no reader reads
  pub not_opened : (fault : Fault) → IsForeign file fault ⊎ IsUnreadable may_fail file fault → Appends old.bytes new.bytes [] → Reports old.reports new.reports ((path, fault) ∷ []) → Grows old.hints new.hints [] → Ended (Ok not_done)
  not_opened fault why none reports gave = inr (refl, (fault, [], inl (why, none), ([], [], inr refl, inr refl, refl), reports, gave))

  -- a file of which not all was written
  pub not_written : (part : List ℕ) (e : SectionError) (result : Result Verdict Fault) (of_file : Bool) → is_of_file (faults.Section e) ≡ of_file → IsReadOf file part → WritesAsked asked style may_fail file old.bytes new.bytes (Err e) → WritesAsked asked style may_fail file old.bytes new.taken (Err e)
      → ReportsFault path old.reports new.reports (faults.Section e) of_file result → HintsFault path old.hints new.hints (faults.Section e) of_file part → Ended result
  not_written part e result true is read wrote took (is_done, reports) (said, says, gave) =
      subst Ended (sym is_done) (inr (refl, (faults.Section e, said, inr (e, refl, of_file_is e is, wrote), said_of_file (faults.Section e) file part said read says, reports, gave)))
  not_written part e result false is read wrote took (err, reports) gave = subst Ended (sym err) (ap (λ (e : SectionError). failure (faults.Section e)) (passed_is e is), (Err e, took), reports, gave)

  -- so for the fault that is made of the error
  pub not_written_for : (part : List ℕ) (e : SectionError) (fault : Fault) (result : Result Verdict Fault) → fault ≡ faults.Section e → IsReadOf file part → WritesAsked asked style may_fail file old.bytes new.bytes (Err e) → WritesAsked asked style may_fail file old.bytes new.taken (Err e)
      → ReportsFault path old.reports new.reports fault (is_of_file fault) result → HintsFault path old.hints new.hints fault (is_of_file fault) part → Ended result
  not_written_for part e fault result is read wrote took reports gave =
      not_written part e result (is_of_file (faults.Section e)) refl read wrote took (subst (λ (f : Fault). ReportsFault path old.reports new.reports f (is_of_file f) result) is reports) (subst (λ (f : Fault). HintsFault path old.hints new.hints f (is_of_file f) part) is gave)

  -- or whose heading wasn't, as `?` passes the fault on
  pub broke_off : (e : Fault) (result : Result Verdict Fault) (ended : Result (Unit {0}) SectionError) → IsErrAnd result (λ f. f ≡ e) → failure e ≡ write_failed → WritesAsked asked style may_fail file old.bytes new.taken ended → Reports old.reports new.reports [] → Grows old.hints new.hints [] → Ended result
  broke_off e (Ok verdict) ended is failed took reports gave = absurd is
  broke_off e (Err f) ended is failed took reports gave = subst (λ (f : Fault). Ended (Err f)) (sym is) (failed, (ended, took), reports, gave)
