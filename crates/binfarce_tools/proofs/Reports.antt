-- How a call ended that makes a text of the sums of a file and writes it, and what was taken: whatever the text is.
use Rattle.std.proofs.Common.{◌≡◌, ℕ, ◌<◌, ◌≤◌, ◌^◌, List, map, Option, Some, None, Result, Ok, Err, String, string_bytes, refl, sym, ap, subst, ◌∙◌, inl, inr, ◌⊎◌, arith}
use Rattle.std.specs.Prelude.{IfOk, MatchResult}
use Rattle.std.specs.List.{AllZip, sum_by}
use Rattle.std.specs.Result.{IsErrAnd}
use Rattle.binfarce.specs.Refusal.{Refusal}
use Rattle.binfarce.specs.SectionEntries.{SectionEntry, SelectedSymbols}
use Rattle.binfarce.specs.Symbol.{Entry}
use Rattle.binfarce_tools.specs.declared.functions.Selected.{Selected}
use Rattle.binfarce_tools.specs.declared.report.CrateSums.{CrateSums}
use Rattle.binfarce_tools.specs.declared.report.ReportError.{ReportError}
use Rattle.binfarce_tools.specs.declared.report.ReportError.TheVariants.{OutOfMemory, TooLarge}
use Rattle.binfarce_tools.specs.Report.{Share, IsShareOf, IsReportOfShares}
use Rattle.binfarce_tools.specs.ReportWords.{outcome_of}
use Rattle.binfarce_tools.specs.SelectedTexts.{IsReportOfSelected, SelectedReportFits, last_line}
use Rattle.binfarce_tools.specs.Sums.{AreSumsOf}
use Rattle.binfarce_tools.specs.Writing.{Outcome, EndsAs, Takes, written, write_failed, no_memory, WritesMade}
use Rattle.binfarce_tools.specs.Answer.{entries_of}
use Rattle.binfarce_tools.specs.Entries.{GetsAs, HoldsLeft, all_left}
use Rattle.binfarce_tools.proofs.CrateSums.{total_is}
use Rattle.binfarce_tools.proofs.Lines.{nothing}

abbrev pub size_of_all : List Entry → ℕ
size_of_all entries = sum_by (λ (e : Entry). e.size) entries

too_large : (n : ℕ) → 2 ^ 64 ≤ n → ¬ (n < 2 ^ 64)
too_large n le lt = omega arith

-- these are the entries of an answer, without their sections, and its size
abbrev pub HoldsList : SelectedSymbols → List Entry × Option ℕ → Type 0
HoldsList listed got = (got.0 ≡ entries_of listed) × (got.1 ≡ listed.section_size)

-- so are those that are left of what holds it
pub list_of : (memory : Result SelectedSymbols Refusal → Type 0) (answer : Option (Result SelectedSymbols Refusal)) (selected : Selected) (entries : List SectionEntry) (size : Option ℕ) → entries ≡ all_left selected.functions → size ≡ selected.size
    → GetsAs HoldsLeft memory answer (Ok selected) → GetsAs HoldsList memory answer (Ok (map (λ e. e.entry) entries, size))
list_of memory None selected entries size left is gets = absurd gets
list_of memory (Some (Err refusal)) selected entries size left is gets = absurd gets
list_of memory (Some (Ok seen)) selected entries size left is gets = (ap (map (λ (e : SectionEntry). e.entry)) (left ∙ gets.0), is ∙ gets.1)

-- the sums are those of an answer's entries
abbrev pub AreSumsOfFile : SelectedSymbols → CrateSums → Type 0
AreSumsOfFile listed sums = (shares : List Share) × AllZip IsShareOf (entries_of listed) shares × AreSumsOf shares sums

-- the result of summing a file with this answer: its sums, or how the report ends without them
abbrev pub GetsSelectedSums : (Result SelectedSymbols Refusal → Type 0) → Option (Result SelectedSymbols Refusal) → Result CrateSums ReportError → Type 0
GetsSelectedSums memory answer (Ok sums) = (selected : SelectedSymbols) × (answer ≡ Some (Ok selected)) × AreSumsOfFile selected sums
GetsSelectedSums memory answer (Err e) = EndsAs SelectedReportFits memory answer (outcome_of (Err e))

-- where the sums of what was got weren't made
none_summed : (memory : Result SelectedSymbols Refusal → Type 0) (answer : Option (Result SelectedSymbols Refusal)) (entries : List Entry) (size : Option ℕ) (e : ReportError)
    → GetsAs HoldsList memory answer (Ok (entries, size)) → (e ≡ OutOfMemory) ⊎ ((e ≡ TooLarge) × (2 ^ 64 ≤ size_of_all entries)) → GetsSelectedSums memory answer (Err e)
none_summed memory None entries size e gets is = absurd gets
none_summed memory (Some (Err refusal)) entries size e gets is = absurd gets
none_summed memory (Some (Ok listed)) entries size e gets (inl is) = let P : ReportError → Type 0 = λ e. GetsSelectedSums memory (Some (Ok listed)) (Err e) in
    subst P (sym is) (inl refl)
none_summed memory (Some (Ok listed)) entries size e gets (inr is) =
    let P : ReportError → Type 0 = λ e. GetsSelectedSums memory (Some (Ok listed)) (Err e) in
    let Q : List Entry → Type 0 = λ es. 2 ^ 64 ≤ size_of_all es in
    subst P (sym is.0) (inr (inr (too_large (size_of_all (entries_of listed)) (subst Q gets.0 is.1), refl)))

-- where they were made
summed : (memory : Result SelectedSymbols Refusal → Type 0) (answer : Option (Result SelectedSymbols Refusal)) (entries : List Entry) (size : Option ℕ) (sums : CrateSums)
    → GetsAs HoldsList memory answer (Ok (entries, size)) → (shares : List Share) × AllZip IsShareOf entries shares × AreSumsOf shares sums → GetsSelectedSums memory answer (Ok sums)
summed memory None entries size sums gets are = absurd gets
summed memory (Some (Err refusal)) entries size sums gets are = absurd gets
summed memory (Some (Ok listed)) entries size sums gets are =
    let P : List Entry → Type 0 = λ es. (shares : List Share) × AllZip IsShareOf es shares × AreSumsOf shares sums in
    (listed, refl, subst P gets.0 are)

-- whether or not they were made
pub summed_or_not : (memory : Result SelectedSymbols Refusal → Type 0) (answer : Option (Result SelectedSymbols Refusal)) (entries : List Entry) (size : Option ℕ) (result : Result CrateSums ReportError)
    → GetsAs HoldsList memory answer (Ok (entries, size))
    → MatchResult result (λ s. (shares : List Share) × AllZip IsShareOf entries shares × AreSumsOf shares s) (λ e. (e ≡ OutOfMemory) ⊎ ((e ≡ TooLarge) × (2 ^ 64 ≤ size_of_all entries)))
    → GetsSelectedSums memory answer result
summed_or_not memory answer entries size (Ok sums) gets is = summed memory answer entries size sums gets is
summed_or_not memory answer entries size (Err e) gets is = none_summed memory answer entries size e gets is

-- then nothing was reported
pub none_reported : (memory : Result SelectedSymbols Refusal → Type 0) (answer : Option (Result SelectedSymbols Refusal)) (entries : List Entry) (size : Option ℕ) (e : ReportError) (result : Result (Unit {0}) ReportError)
    → GetsAs HoldsList memory answer (Ok (entries, size)) → (e ≡ OutOfMemory) ⊎ ((e ≡ TooLarge) × (2 ^ 64 ≤ size_of_all entries)) → IsErrAnd result (λ f. f ≡ e) → EndsAs SelectedReportFits memory answer (outcome_of result)
none_reported memory answer entries size e (Ok x) gets why is = absurd is
none_reported memory answer entries size e (Err f) gets why is =
    subst (λ (f : ReportError). EndsAs SelectedReportFits memory answer (outcome_of (Err f))) (sym is) (none_summed memory answer entries size e gets why)

pub none_taken : (IsText : SelectedSymbols → List ℕ → Type 0) (answer : Option (Result SelectedSymbols Refusal)) (n : ℕ) (e : ReportError) (old : Option (List ℕ)) (result : Result (Unit {0}) ReportError)
    → (e ≡ OutOfMemory) ⊎ ((e ≡ TooLarge) × (2 ^ 64 ≤ n)) → IsErrAnd result (λ f. f ≡ e) → Takes IsText answer old old (outcome_of result)
none_taken IsText answer n e old (Ok x) why is = absurd is
none_taken IsText answer n e old (Err f) (inl why) is = subst (λ (f : ReportError). Takes IsText answer old old (outcome_of (Err f))) (sym (is ∙ why)) (nothing old)
none_taken IsText answer n e old (Err f) (inr why) is = subst (λ (f : ReportError). Takes IsText answer old old (outcome_of (Err f))) (sym (is ∙ why.0)) (nothing old)

-- the sum of all sizes fits
pub fits : (listed : SelectedSymbols) (sums : CrateSums) → AreSumsOfFile listed sums → SelectedReportFits listed
fits listed sums shares =
    let P : ℕ → Type 0 = λ n. n < 2 ^ 64 in subst P (sym shares.2.total_is ∙ total_is (entries_of listed) shares.0 shares.1) shares.2.fits

-- what is got of an answer
pub got : {L X : Type 0} (Holds : L → X → Type 0) (memory : Result L Refusal → Type 0) (answer : Option (Result L Refusal)) (value : X) → GetsAs Holds memory answer (Ok value) → (seen : L) × (answer ≡ Some (Ok seen)) × Holds seen value
got Holds memory None value gets = absurd gets
got Holds memory (Some (Err refusal)) value gets = absurd gets
got Holds memory (Some (Ok seen)) value gets = (seen, refl, gets)

-- how a call ended that wrote a text of a file's answer, if it was made, and what was taken
module _ {L : Type 0} (answer : Option (Result L Refusal)) (seen : L) (is : answer ≡ Some (Ok seen)) where
  pub ends : {Y E : Type 0} (Fits : L → Type 0) (memory : Result L Refusal → Type 0) (made : Result (String Y) E) (old new : Option (List ℕ)) (o : Outcome) → Fits seen → WritesMade made old new o → EndsAs Fits memory answer o
  ends Fits memory made old new o fits wrote = subst (λ (a : Option (Result L Refusal)). EndsAs Fits memory a o) (sym is) (by_made made wrote)
    where
      by_made : {Y E : Type 0} (made : Result (String Y) E) → WritesMade made old new o → EndsAs Fits memory (Some (Ok seen)) o
      by_made (Err e) wrote = inl wrote.0
      by_made (Ok text) (inl wrote) = inr (inl (fits, inl wrote.0))
      by_made (Ok text) (inr wrote) = inr (inl (fits, inr wrote.0))

  pub takes : {Y E : Type 0} (IsText : L → List ℕ → Type 0) (made : Result (String Y) E) (old new : Option (List ℕ)) (o : Outcome) → IfOk made (λ t. IsText seen (string_bytes t)) → WritesMade made old new o → Takes IsText answer old new o
  takes IsText made old new o due wrote = subst (λ (a : Option (Result L Refusal)). Takes IsText a old new o) (sym is) (by_made made due wrote)
    where
      ended : (end : Outcome) → o ≡ end → Takes IsText (Some (Ok seen)) old new end → Takes IsText (Some (Ok seen)) old new o
      ended end is = subst (λ (o : Outcome). Takes IsText (Some (Ok seen)) old new o) (sym is)

      by_made : {Y E : Type 0} (made : Result (String Y) E) → IfOk made (λ t. IsText seen (string_bytes t)) → WritesMade made old new o → Takes IsText (Some (Ok seen)) old new o
      by_made (Err e) due wrote = ended no_memory wrote.0 wrote.1
      by_made (Ok text) due (inl wrote) = ended written wrote.0 (string_bytes text, due, wrote.1)
      by_made (Ok text) due (inr wrote) = ended write_failed wrote.0 (string_bytes text, due, wrote.1)

-- the text of sums is that of the shares of an answer's entries
pub due : {Y E : Type 0} (IsText : List Share → List ℕ → Type 0) (seen : SelectedSymbols) (entries : List Entry) (sums : CrateSums) (made : Result (String Y) E) → entries ≡ entries_of seen → (shares : List Share) × AllZip IsShareOf entries shares × AreSumsOf shares sums
    → IfOk made (λ t. (shares : List Share) → AreSumsOf shares sums → IsText shares (string_bytes t)) → IfOk made (λ t. (shares : List Share) × AllZip IsShareOf (entries_of seen) shares × IsText shares (string_bytes t))
due IsText seen entries sums (Err e) same are is = is
due IsText seen entries sums (Ok t) same are is = (are.0, subst (λ (es : List Entry). AllZip IsShareOf es are.0) same are.1, is are.0 are.2)

-- the report of what was got
pub of_report : {Y E : Type 0} (seen : SelectedSymbols) (entries : List Entry) (size : Option ℕ) (sums : CrateSums) (made : Result (String Y) E) → HoldsList seen (entries, size) → (shares : List Share) × AllZip IsShareOf entries shares × AreSumsOf shares sums
    → IfOk made (λ t. (shares : List Share) → AreSumsOf shares sums → IsReportOfShares shares (last_line size) (string_bytes t)) → IfOk made (λ t. IsReportOfSelected seen (string_bytes t))
of_report seen entries size sums made held are is =
    due (λ shares text. IsReportOfShares shares (last_line seen.section_size) text) seen entries sums made held.0 are
    (subst (λ (n : Option ℕ). IfOk made (λ t. (shares : List Share) → AreSumsOf shares sums → IsReportOfShares shares (last_line n) (string_bytes t))) held.1 is)
