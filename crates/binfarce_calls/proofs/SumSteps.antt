-- What a file comes to that is summed by its sections, by how the summing of what is read of it ended.
use Rattle.std.proofs.Common.{◌≡◌, ◌∙◌, ◌⊎◌, inl, inr, Bool, true, false, not, ◌||◌, ℕ, List, [], ◌∷◌, ◌++◌, Option, Some, None, is_some, Result, Ok, Err, IsErrAnd, append-nil, map, refl, sym, ap, ap₂, subst}
use Rattle.std.specs.Io.KnownBytes.{Appends, Keeps}
use Rattle.binfarce_rows.specs.Json.{Style}
use Rattle.binfarce_sections.specs.Results.{TakesText}
use Rattle.binfarce_sections.specs.Sums.{FileSums, sums_text}
use Rattle.binfarce_sections.specs.declared.error.SectionError.{SectionError}
use Rattle.binfarce_sections.specs.declared.error.SectionError.TheVariants as errors
use Rattle.binfarce_tools.specs.Writing.{AppendsBeginning, Outcome, write_failed}
use Rattle.binfarce_io.specs.Faults.{failure, is_failed_write, is_of_call, is_of_file}
use Rattle.binfarce_words.specs.Words.{Argument}
use Rattle.binfarce_jobs.specs.Files.{Files, Grows, HintsFault, IsHeld, Reports, ReportsFault, State, asked_files, heading, hinted}
use Rattle.binfarce_foreign.specs.Foreign.{foreign_in}
use Rattle.binfarce_jobs.specs.Hints.{words_of}
use Rattle.binfarce_io.specs.Input.{IsForeign, IsReadOf, IsUnreadable}
use Rattle.binfarce_jobs.specs.Limit.{above, are_above}
use Rattle.binfarce_io.specs.Output.{pending, taken, writer_of}
use Rattle.binfarce_io.specs.declared.fault.Fault.{Fault}
use Rattle.binfarce_io.specs.declared.fault.Fault.TheVariants as faults
use Rattle.binfarce_jobs.specs.declared.limit.Verdict.{Verdict}
use Rattle.binfarce_io.specs.declared.output.Output.{Output}
use Rattle.binfarce_jobs.proofs.FileFates.{beginning_after, said_of_file, whole, whole_taken}
use Rattle.binfarce_jobs.specs.Show.{limits_of}
use Rattle.binfarce_limits.specs.Rows.{Found, NameLimit, finding_view, findings, found_words}
use Rattle.binfarce_calls.specs.RowLimits.{sized_in}
use Rattle.binfarce_calls.specs.declared.sections.FileRows.{FileRows}
use Rattle.binfarce_calls.specs.Sections.{InTurn, SumsArgument, SumsOne, not_done, style_at}
use Rattle.binfarce_calls.specs.Summed.{HasNoSections, HasSections, MayBeRefused, refused, summed}
use Rattle.binfarce_calls.specs.machine.Steps.{SumFails, SumsSource}

nothing : (old new : Option (List ℕ)) → new ≡ old → Appends old new []
nothing None new same = tt
nothing (Some a) new same = subst (λ (n : Option (List ℕ)). Appends (Some a) n []) (sym same) (sym (append-nil a))

-- a failed write is not the file's
written_of_call : (fault : Fault) → failure fault ≡ write_failed → is_of_file fault ≡ false
written_of_call fault is = ap (λ (o : Outcome). not (is_failed_write o || is_of_call fault)) is

module _ {W : Type 0} (contents : W → Option (List ℕ)) (style : Style) (first : Option ℕ) (limits : List NameLimit) (may_fail : Bool) (file : List ℕ) (old mid : Output W) where
  abbrev pub Held : Output W → Result FileRows Fault → Type 0
  Held new result = SumsSource style first limits may_fail file (pending old) (contents (writer_of old)) (contents (writer_of new)) (taken contents new) result

  -- as `?` passes a fault on
  pub held_on : (new : Output W) (e : Fault) (result : Result FileRows Fault) → IsErrAnd result (λ f. f ≡ e) → Held new (Err e) → Held new result
  held_on new e (Ok n) is held = absurd is
  held_on new e (Err f) is held = subst (λ (f : Fault). Held new (Err f)) (sym is) held

  -- a file that is refused before anything is written
  pub held_refused : (e : Fault) → is_of_file e ≡ true → MayBeRefused HasNoSections may_fail file e → Held old (Err e)
  held_refused e is may = subst (λ (b : Bool). SumFails style first may_fail file (pending old) (contents (writer_of old)) (contents (writer_of old)) (taken contents old) e b) (sym is) (may, refl)

  -- the rows weren't written
  pub rows_broke : (sums : FileSums) (e : SectionError) → HasSections file sums → TakesText (λ text. text ≡ sums_text style first sums) (taken contents old) (taken contents mid) (Err e) → ((e ≡ errors.Write → ⊥) → mid ≡ old) → Held mid (Err (faults.Section e))
  rows_broke sums errors.Write has (text, is, begins) leaves =
      (refl, (sums, has, beginning_after (contents (writer_of old)) (taken contents mid) (pending old) (sums_text style first sums) (subst (AppendsBeginning (taken contents old) (taken contents mid)) is begins)))
  rows_broke sums errors.OutOfMemory has takes leaves = (inr (inl (inl refl)), ap (λ (s : Output W). contents (writer_of s)) (leaves (λ e. cc)))
  rows_broke sums errors.Unknown has takes leaves = absurd takes
  rows_broke sums (errors.Parse p) has takes leaves = absurd takes
  rows_broke sums errors.NoSection has takes leaves = absurd takes
  rows_broke sums errors.NoBytes has takes leaves = absurd takes
  rows_broke sums errors.PastEnd has takes leaves = absurd takes
  rows_broke sums errors.Unreadable has takes leaves = absurd takes

  -- what is left of the heading wasn't
  pub heading_broke : (new : Output W) (sums : FileSums) (e : Fault) → HasSections file sums → TakesText (λ text. text ≡ sums_text style first sums) (taken contents old) (taken contents mid) (Ok tt) → Keeps (taken contents mid) (taken contents new)
      → failure e ≡ write_failed → Held new (Err e)
  heading_broke new sums e has (text, text_is, took) kept is =
      subst (λ (b : Bool). SumFails style first may_fail file (pending old) (contents (writer_of old)) (contents (writer_of new)) (taken contents new) e b) (sym (written_of_call e is))
      (is, (sums, has, whole_taken (contents (writer_of old)) (taken contents mid) (taken contents new) (pending old) (sums_text style first sums) (subst (Appends (taken contents old) (taken contents mid)) text_is took) kept))

  -- all was written
  pub rows_written : (new : Output W) (sums : FileSums) (found : FileRows) → HasSections file sums → TakesText (λ text. text ≡ sums_text style first sums) (taken contents old) (taken contents mid) (Ok tt) → Keeps (taken contents mid) (taken contents new)
      → pending new ≡ [] → found.length ≡ sums.file_length → map finding_view found.rows.items ≡ findings (sized_in sums) limits → Held new (Ok found)
  rows_written new sums found has (text, text_is, took) kept none is are =
      (sums, has, is, are, whole (contents (writer_of old)) (taken contents mid) (contents (writer_of new)) (pending old) (pending new) (sums_text style first sums) (subst (Appends (taken contents old) (taken contents mid)) text_is took) kept none)

module _ (first : Option ℕ) (files : Files) (path : List ℕ) (old new : State) where
  abbrev pub One : Result Verdict Fault → Type 0
  One result = SumsOne first files path old new result

  -- a file that can't be opened or read, or that no reader reads
  pub unopened_one : (fault : Fault) → IsForeign (files.held path) fault ⊎ IsUnreadable (files.may_fail path) (files.held path) fault → new.bytes ≡ old.bytes → Reports old.reports new.reports ((path, fault) ∷ []) → Grows old.hints new.hints [] → One (Ok not_done)
  unopened_one fault why same reports gave = (refused fault [], (may why, ([], [], inr refl, inr refl, refl)), refl, nothing old.bytes new.bytes same, reports, gave)
    where
      may : IsForeign (files.held path) fault ⊎ IsUnreadable (files.may_fail path) (files.held path) fault → MayBeRefused HasNoSections (files.may_fail path) (files.held path) fault
      may (inl is) = inl is
      may (inr is) = inr (inl is)

  module _ (part left : List ℕ) (read : IsReadOf (files.held path) part) (native : foreign_in (files.held path) ≡ None) (is : left ≡ heading files.are_several path) where
    -- a file that is refused, or whose rows weren't written
    pub failed_one : (fault : Fault) (result : Result Verdict Fault) (of_file : Bool) → SumFails (style_at files.asked path) first (files.may_fail path) (files.held path) left old.bytes new.bytes new.taken fault of_file
        → ReportsFault path old.reports new.reports fault of_file result → HintsFault path old.hints new.hints fault of_file part → One result
    failed_one fault result true (may, same) (done, reports) (said, says, gave) =
        subst One (sym done) (refused fault said, (may, said_of_file fault (files.held path) part said read says), refl, nothing old.bytes new.bytes same, reports, gave)
    failed_one fault result false (wrote, (sums, has, begins)) (err, reports) gave =
        subst One (sym err) (inl (wrote, (native, (sums, has, subst (λ (h : List ℕ). AppendsBeginning old.bytes new.taken (h ++ sums_text (style_at files.asked path) first sums)) is begins))), reports, gave)

    -- a file whose rows are written
    pub summed_one : (found : FileRows) (is_above : Bool) → SumsSource (style_at files.asked path) first (limits_of files.asked) (files.may_fail path) (files.held path) left old.bytes new.bytes new.taken (Ok found)
        → is_above ≡ (is_some (above found.length files.asked.limit) || are_above (map finding_view found.rows.items))
        → Reports old.reports new.reports [] → Grows old.hints new.hints (hinted path (words_of (above found.length files.asked.limit) ++ map found_words (map finding_view found.rows.items))) → One (Ok (record { is_done = true; is_above = is_above }))
    summed_one found is_above (sums, has, length_is, rows_are, wrote) exceeds reports gave = (
      summed sums,
      (native, has),
      ap (λ (b : Bool). record { is_done = true; is_above = b }) (exceeds ∙ ap₂ (λ (n : ℕ) (rows : List Found). is_some (above n files.asked.limit) || are_above rows) length_is rows_are),
      subst (λ (h : List ℕ). Appends old.bytes new.bytes (h ++ sums_text (style_at files.asked path) first sums)) is wrote,
      reports,
      subst (λ (rows : List Found). Grows old.hints new.hints (hinted path (words_of (above sums.file_length files.asked.limit) ++ map found_words rows))) rows_are
          (subst (λ (n : ℕ). Grows old.hints new.hints (hinted path (words_of (above n files.asked.limit) ++ map found_words (map finding_view found.rows.items)))) length_is gave),
    )

-- what one argument came to, by what is known of its file
pub one_at : (first : Option ℕ) (files : Files) (bytes_at bytes_now : List ℕ → Option (List ℕ)) (may_now : List ℕ → Bool) (argument : Argument) (mid new : State) (result : Result Verdict Fault)
    → bytes_now ≡ bytes_at → may_now ≡ files.may_fail → IsHeld bytes_at files.held argument
    → ((held : List ℕ → List ℕ) → IsHeld bytes_now held argument → SumsArgument first (asked_files files.asked files.are_several may_now held) argument mid new result)
    → SumsArgument first files argument mid new result
one_at first files bytes_at bytes_now may_now argument mid new result same may_same known sums =
    subst (λ (m : List ℕ → Bool). SumsArgument first (asked_files files.asked files.are_several m files.held) argument mid new result) may_same
    (sums files.held (subst (λ (b : List ℕ → Option (List ℕ)). IsHeld b files.held argument) (sym same) known))

-- how all ended, as `?` passes the fault on
pub passed_on : (first : Option ℕ) (files : Files) (arguments : List Argument) (old new : State) (e : Fault) (result : Result Verdict Fault) → IsErrAnd result (λ f. f ≡ e) → InTurn (SumsArgument first files) arguments old new (Err e)
    → InTurn (SumsArgument first files) arguments old new result
passed_on first files arguments old new e (Ok all) is ended = absurd is
passed_on first files arguments old new e (Err f) is ended = subst (λ (f : Fault). InTurn (SumsArgument first files) arguments old new (Err f)) (sym is) ended
