-- How the writing of how two files differ ended.
use Rattle.std.proofs.Common.{◌≡◌, ◌∙◌, ◌⊎◌, inl, inr, Bool, false, ℕ, List, [], ◌++◌, Option, Some, None, Result, Ok, Err, IsErrAnd, is_some, ◌∷◌, ◌||◌, map, refl, sym, ap, ap₂, subst}
use Rattle.std.proofs.lemmas.List.{map-append}
use Rattle.std.specs.Io.KnownBytes.{Appends}
use Rattle.binfarce_bytes.specs.Refusal.{Refusal}
use Rattle.binfarce_bytes.specs.SectionEntries.{SelectedSymbols}
use Rattle.binfarce_figures.specs.Changes.{both}
use Rattle.binfarce_figures.specs.declared.diff.Growth.{Growth}
use Rattle.binfarce_sections.specs.Results.{TakesText}
use Rattle.binfarce_sections.specs.declared.error.SectionError.{SectionError}
use Rattle.binfarce_sections.specs.declared.error.SectionError.TheVariants as errors
use Rattle.binfarce_tools.specs.Writing.{AppendsBeginning, IsDue, Takes, no_memory, write_failed}
use Rattle.binfarce_tools.specs.ReportWords.{outcome_of}
use Rattle.binfarce_tools.specs.declared.report.ReportError.{ReportError}
use Rattle.binfarce_tools.specs.declared.report.ReportError.TheVariants as reports
use Rattle.binfarce_io.specs.Faults.{failure}
use Rattle.binfarce_jobs.specs.Files.{Grows, Hinted, Reports, State, hinted}
use Rattle.binfarce_jobs.specs.Hints.{IsOrNone, words_of}
use Rattle.binfarce_jobs.specs.Limit.{are_above, grown}
use Rattle.binfarce_io.specs.declared.fault.Fault.{Fault}
use Rattle.binfarce_io.specs.declared.fault.Fault.TheVariants as faults
use Rattle.binfarce_limits.specs.Rows.{Found, finding_view, finding_words, found_words}
use Rattle.binfarce_limits.specs.declared.rows.Finding.{Finding}
use Rattle.binfarce_jobs.proofs.FileLoop.{grows_none, reports_more}
use Rattle.binfarce_calls.specs.Compared.{BreaksOff, Comparison, Differ}
use Rattle.binfarce_calls.specs.Summed.{Fate, refused, summed}
use Rattle.binfarce_calls.specs.machine.Steps.{Carries, Writes}
use Rattle.binfarce_calls.proofs.Written.{nothing}

-- both files are summed
pub both_had : {S T : Type 0} (Is Also : S → T → Type 0) (given more : Option T) (x y : T) (first second : Fate S) → given ≡ Some x → more ≡ Some y → Carries Is given first → Carries Also more second
    → (a b : S) × (first ≡ summed a) × (second ≡ summed b) × Is a x × Also b y
both_had {S} {T} Is Also given more x y first second is also one other =
    by first second (subst (λ (o : Option T). Carries Is o first) is one) (subst (λ (o : Option T). Carries Also o second) also other)
  where
    by : (first second : Fate S) → Carries Is (Some x) first → Carries Also (Some y) second → (a b : S) × (first ≡ summed a) × (second ≡ summed b) × Is a x × Also b y
    by (summed a) (summed b) one other = (a, b, refl, refl, one, other)
    by (summed a) (refused fault said) one other = absurd other
    by (refused fault said) second one other = absurd one

-- one isn't: nothing is written, and no more is said
pub none_had : {S T : Type 0} (asked : Comparison S) (Is Also : S → T → Type 0) (given more : Option T) (first second : Fate S) → (given ≡ None) ⊎ (more ≡ None) → Carries Is given first → Carries Also more second → Differ asked first second [] [] false
none_had {S} {T} asked Is Also given more first second (inl is) one other = by first (subst (λ (o : Option T). Carries Is o first) is one)
  where
    by : (first : Fate S) → Carries Is None first → Differ asked first second [] [] false
    by (summed a) one = absurd one
    by (refused fault said) one = (refl, refl, refl)
none_had {S} {T} asked Is Also given more first second (inr is) one other = by first second (subst (λ (o : Option T). Carries Also o second) is other)
  where
    by : (first second : Fate S) → Carries Also None second → Differ asked first second [] [] false
    by (summed a) (refused fault said) other = (refl, refl, refl)
    by (refused f s) second other = (refl, refl, refl)
    by (summed a) (summed b) other = absurd other

-- so nothing is written
pub unwritten : {S : Type 0} (asked : Comparison S) (first second : Fate S) (state : State) → Differ asked first second [] [] false → Writes asked first second state state (Ok false)
unwritten asked first second state differ = ([], [], differ, nothing state.bytes, grows_none state.reports, grows_none state.hints)

-- two answers are both
pub both_are : (x y : Option (Result SelectedSymbols Refusal)) (a b : SelectedSymbols) → x ≡ Some (Ok a) → y ≡ Some (Ok b) → both x y ≡ Some (Ok (a, b))
both_are x y a b is also = ap₂ both is also

-- a growth by its numbers
pub growth_of : (a b x y : ℕ) → a ≡ x → b ≡ y → Path Growth (record { old = a; new = b }) (record { old = x; new = y })
growth_of a b x y is also = ap₂ {C = Growth} (λ (n m : ℕ). record { old = n; new = m }) is also

-- the text that is due of an answer
pub due_of : {L : Type 0} (Is : L → List ℕ → Type 0) (answer : Option (Result L Refusal)) (listed : L) (text : List ℕ) → answer ≡ Some (Ok listed) → IsDue Is answer text → Is listed text
due_of {L} Is answer listed text is due = subst (λ (a : Option (Result L Refusal)). IsDue Is a text) is due

module _ {S : Type 0} (asked : Comparison S) (a b : S) (first second : Fate S) (first_is : first ≡ summed a) (second_is : second ≡ summed b) (before after : State) where
  -- both files are summed, and how they differ is written
  pub were_written : (text : List ℕ) (growth : Growth) (rows : List Found) (lacks_old lacks_new : List (List ℕ)) → asked.IsText a b text → asked.IsGrowth a b growth → asked.AreRows a b rows
      → IsOrNone (words_of (asked.lack asked.old.bytes)) lacks_old → IsOrNone (words_of (asked.lack asked.new.bytes)) lacks_new
      → Appends before.bytes after.bytes text → Reports before.reports after.reports []
      → Grows before.hints after.hints (hinted asked.old.path lacks_old ++ (hinted asked.new.path lacks_new ++ hinted asked.new.path (words_of (grown growth asked.limit) ++ map found_words rows)))
      → (is_above : Bool) → is_above ≡ (is_some (grown growth asked.limit) || are_above rows) → Writes asked first second before after (Ok is_above)
  were_written text growth rows lacks_old lacks_new is_text is_growth are_rows one other wrote more gave is_above above =
      let said = hinted asked.old.path lacks_old ++ (hinted asked.new.path lacks_new ++ hinted asked.new.path (words_of (grown growth asked.limit) ++ map found_words rows)) in
      subst (λ (f : Fate S). Writes asked f second before after (Ok is_above)) (sym first_is)
      (subst (λ (s : Fate S). Writes asked (summed a) s before after (Ok is_above)) (sym second_is)
      (text, said, (is_text, (growth, rows, is_growth, are_rows, (lacks_old, lacks_new, one, other, refl), above)), wrote, more, gave))

  -- or the writing failed
  pub were_not : (e : Fault) → BreaksOff asked (summed a) (summed b) before after (failure e) → Writes asked first second before after (Err e)
  were_not e broke =
      subst (λ (f : Fate S). BreaksOff asked f second before after (failure e)) (sym first_is)
      (subst (λ (s : Fate S). BreaksOff asked (summed a) s before after (failure e)) (sym second_is) broke)

module _ {L : Type 0} (Is : L → List ℕ → Type 0) (answer : Option (Result L Refusal)) (listed : L) (is : answer ≡ Some (Ok listed)) (old new : Option (List ℕ)) where
  -- how the writing of a text that is made of an answer failed
  pub report_broke : (e : ReportError) → (e ≡ reports.OutOfMemory) ⊎ (e ≡ reports.Write) → Takes Is answer old new (outcome_of (Err e))
      → ((failure (faults.Report e) ≡ write_failed) × ((text : List ℕ) × Is listed text × AppendsBeginning old new text)) ⊎ ((failure (faults.Report e) ≡ no_memory) × Appends old new [])
  report_broke reports.OutOfMemory either takes = inr (refl, takes)
  report_broke reports.Write either (text, due, begins) = inl (refl, (text, due_of Is answer listed text is due, begins))
  report_broke reports.Unknown (inl e) takes = absurd cc
  report_broke reports.Unknown (inr e) takes = absurd cc
  report_broke (reports.Parse p) (inl e) takes = absurd cc
  report_broke (reports.Parse p) (inr e) takes = absurd cc
  report_broke reports.TooLarge (inl e) takes = absurd cc
  report_broke reports.TooLarge (inr e) takes = absurd cc

-- so of sections
pub section_broke : (Is : List ℕ → Type 0) (old new : Option (List ℕ)) (e : SectionError) → TakesText Is old new (Err e)
    → ((failure (faults.Section e) ≡ write_failed) × ((text : List ℕ) × Is text × AppendsBeginning old new text)) ⊎ ((failure (faults.Section e) ≡ no_memory) × Appends old new [])
section_broke Is old new errors.OutOfMemory takes = inr (refl, takes)
section_broke Is old new errors.Write takes = inl (refl, takes)
section_broke Is old new errors.Unknown takes = absurd takes
section_broke Is old new (errors.Parse p) takes = absurd takes
section_broke Is old new errors.NoSection takes = absurd takes
section_broke Is old new errors.NoBytes takes = absurd takes
section_broke Is old new errors.PastEnd takes = absurd takes
section_broke Is old new errors.Unreadable takes = absurd takes

-- as `?` passes the fault on
pub passed_on : {S : Type 0} (asked : Comparison S) (first second : Fate S) (before after : State) (e : Fault) (result : Result Bool Fault) → IsErrAnd result (λ f. f ≡ e) → Writes asked first second before after (Err e) → Writes asked first second before after result
passed_on asked first second before after e (Ok is_above) is wrote = absurd is
passed_on asked first second before after e (Err f) is wrote = subst (λ (f : Fault). Writes asked first second before after (Err f)) (sym is) wrote

-- the words of findings
pub words_are : (found : List Finding) → map finding_words found ≡ map found_words (map finding_view found)
words_are [] = refl
words_are (f ∷ found) = ap (λ (said : List (List ℕ)). finding_words f ∷ said) (words_are found)

-- what is said of a file, and then more
pub said_more : (path : List ℕ) (a b c : Option (List Hinted)) (xs ys : List (List ℕ)) → Grows a b (hinted path xs) → Grows b c (hinted path ys) → Grows a c (hinted path (xs ++ ys))
said_more path a b c xs ys one other =
    subst (Grows a c) (sym (map-append (λ (words : List ℕ). (path, words)) xs ys)) (reports_more a b c (hinted path xs) (hinted path ys) one other)

-- what is said of a sum, and of rows
pub said_both : (path : List ℕ) (a b c : Option (List Hinted)) (words : List (List ℕ)) (rows : List Finding) → Grows a b (hinted path words) → Grows b c (hinted path (map finding_words rows))
    → Grows a c (hinted path (words ++ map found_words (map finding_view rows)))
said_both path a b c words rows one other =
    subst (λ (said : List (List ℕ)). Grows a c (hinted path (words ++ said))) (words_are rows) (said_more path a b c words (map finding_words rows) one other)
