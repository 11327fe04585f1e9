-- The function symbols of a section, made once of its tables: they are those of its answer, and why there are none.
use Rattle.std.proofs.Common.{◌≡◌, ◌≢◌, ◌∙◌, inl, inr, ℕ, Bool, true, List, length, map, nat_eq, Option, Some, None, is_some, unwrap_or, Result, Ok, Err, IsErrAnd, refl, sym, ap, subst}
use Rattle.std.specs.Global.{Vec}
use Rattle.binfarce.specs.SelectionViews.{version_names}
use Rattle.binfarce.specs.Refusal.{Refusal}
use Rattle.binfarce.specs.SectionEntries.{SectionEntry, SelectedSymbols}
use Rattle.binfarce.specs.SymbolViews.{section_function_view}
use Rattle.binfarce.specs.declared.SectionFunction.{SectionFunction}
use Rattle.binfarce_elf_memory.specs.declared.versions.VersionNames.{VersionNames}
use Rattle.binfarce_tools.specs.declared.SymbolTable.{SymbolTable}
use Rattle.binfarce_tools.specs.declared.functions.AllFunctions.{AllFunctions}
use Rattle.binfarce_tools.specs.declared.functions.Selected.{Selected}
use Rattle.binfarce_tools.specs.declared.list.ListError.{ListError}
use Rattle.binfarce_tools.specs.declared.list.ListError.TheVariants as listing
use Rattle.binfarce_tools.specs.declared.tables.Tables.TheVariants.{Made}
use Rattle.binfarce_tools.specs.Entries.{GetsAs, GetsIn, HoldsLeft, all_left}
use Rattle.binfarce_tools.specs.Answer.{selected_answer, MemoryIn}
use Rattle.binfarce_tools.specs.Tables.{AreTablesOf}
use Rattle.binfarce_tools.specs.Writing as writing
use Rattle.binfarce_tools.specs.Writing.{EndsAs, Fails, Takes}
use Rattle.binfarce_tools.proofs.Lines.{nothing}
use Rattle.binfarce_tools.proofs.Reports.{got}
use Rattle.binfarce_tools.proofs.Selected.{sized_in}
use Rattle.binfarce_io.specs.Faults.{failure, list_fault, no_memory_fault, outcome_of}
use Rattle.binfarce_jobs.specs.Hints.{count_of}
use Rattle.binfarce_io.specs.declared.fault.Fault.{Fault}
use Rattle.binfarce_jobs.specs.declared.show.Seen.{Seen}

-- as many function symbols are left as the answer has
pub counted : (which : SymbolTable) (file : List ℕ) (section : Option (List ℕ)) (selected : Selected) → GetsIn which file section (Ok selected) → length (all_left selected.functions) ≡ count_of (selected_answer which section file)
counted which file section selected gets =
    let seen = got HoldsLeft (MemoryIn file section) (selected_answer which section file) selected gets in ap length seen.2.0 ∙ ap count_of (sym seen.1)

-- the answer for a section has these function symbols, and this size
abbrev pub IsMade : SymbolTable → (file name : List ℕ) → List SectionFunction → ℕ → Type 0
IsMade which file name functions size =
    (seen : SelectedSymbols) × (selected_answer which (Some name) file ≡ Some (Ok seen)) × (map section_function_view functions ≡ seen.entries) × (seen.section_size ≡ Some size)

module _ (which : SymbolTable) (file name : List ℕ) where
  pub made : (selected : Selected) (functions : AllFunctions) (given : Option ℕ) (list : Vec SectionFunction) (size : ℕ) → GetsIn which file (Some name) (Ok selected) → all_left functions ≡ all_left selected.functions → given ≡ selected.size
      → map section_function_view list.items ≡ all_left functions → size ≡ unwrap_or given 0 → IsMade which file name list.items size
  made selected functions given list size gets left sized collected is =
      let seen = got HoldsLeft (MemoryIn file (Some name)) (selected_answer which (Some name) file) selected gets in
      let same : size ≡ unwrap_or seen.0.section_size 0 = is ∙ ap (λ (o : Option ℕ). unwrap_or o 0) (sized ∙ seen.2.1) in
      (seen.0, seen.1, collected ∙ left ∙ seen.2.0, by_size seen.0.section_size (sized_in which file (Some name) seen.0 seen.1).0 ∙ ap (λ (n : ℕ). Some n) (sym same))
    where
      by_size : (o : Option ℕ) → is_some o ≡ true → o ≡ Some (unwrap_or o 0)
      by_size (Some n) is = refl
      by_size None is = absurd cc

  pub are_made : (list : Vec SectionFunction) (size : ℕ) (versions : VersionNames) → IsMade which file name list.items size
      → ((seen : SelectedSymbols) → selected_answer which (Some name) file ≡ Some (Ok seen) → (version : ℕ) → version_names versions version ≡ seen.version_name version)
      → AreTablesOf which file (Some name) (Made list size versions)
  unfolding AreTablesOf
  are_made list size versions made named = (made.0, made.1, made.2, made.3, named made.0 made.1)

  -- an answer was there if an allocation failed after it
  pub none_left : (Fits : SelectedSymbols → Type 0) (list : Selected) (result : Result Seen Fault) → GetsIn which file (Some name) (Ok list) → IsErrAnd result (λ f. f ≡ no_memory_fault) → EndsAs Fits (MemoryIn file (Some name)) (selected_answer which (Some name) file) (outcome_of result)
  none_left Fits list (Ok x) gets is = absurd is
  none_left Fits list (Err f) gets is =
      subst (λ (f : Fault). EndsAs Fits (MemoryIn file (Some name)) (selected_answer which (Some name) file) (failure f)) (sym is) (by_answer (selected_answer which (Some name) file) gets)
    where
      by_answer : (answer : Option (Result SelectedSymbols Refusal)) → GetsAs HoldsLeft (MemoryIn file (Some name)) answer (Ok list) → EndsAs Fits (MemoryIn file (Some name)) answer writing.no_memory
      by_answer None gets = absurd gets
      by_answer (Some (Err refusal)) gets = absurd gets
      by_answer (Some (Ok listed)) gets = inl refl

-- function symbols that can't be had end the work so
pub unmade : {X : Type 0} (Holds : SelectedSymbols → X → Type 0) (Fits : SelectedSymbols → Type 0) (memory : Result SelectedSymbols Refusal → Type 0) (answer : Option (Result SelectedSymbols Refusal)) (e : ListError) (result : Result Seen Fault)
    → GetsAs Holds memory answer (Err e) → IsErrAnd result (λ f. f ≡ list_fault e) → EndsAs Fits memory answer (outcome_of result)
unmade Holds Fits memory answer e (Ok x) gets is = absurd is
unmade Holds Fits memory answer e (Err f) gets is = subst (λ (f : Fault). EndsAs Fits memory answer (failure f)) (sym is) (by_answer answer gets)
  where
    by_answer : (answer : Option (Result SelectedSymbols Refusal)) → GetsAs Holds memory answer (Err e) → EndsAs Fits memory answer (failure (list_fault e))
    by_answer None gets = let P : ListError → Type 0 = λ e. EndsAs Fits memory None (failure (list_fault e)) in subst P (sym gets) refl
    by_answer (Some (Ok listed)) gets = let P : ListError → Type 0 = λ e. EndsAs Fits memory (Some (Ok listed)) (failure (list_fault e)) in subst P (sym gets.1) (inl refl)
    by_answer (Some (Err refusal)) (inl (p, same, is)) = let P : ListError → Type 0 = λ e. EndsAs Fits memory (Some (Err refusal)) (failure (list_fault e)) in subst P (sym is) (inl (ap writing.refused same))
    by_answer (Some (Err refusal)) (inr (needs, is)) = let P : ListError → Type 0 = λ e. EndsAs Fits memory (Some (Err refusal)) (failure (list_fault e)) in subst P (sym is) (inr (needs, refl))

-- whether there is none of the function symbols of an answer
abbrev pub IsEmpty : SelectedSymbols → Bool → Type 0
IsEmpty selected none = none ≡ nat_eq (length selected.entries) 0

module _ (memory : Result SelectedSymbols Refusal → Type 0) (answer : Option (Result SelectedSymbols Refusal)) where
  pub empty_of : (selected : Selected) (none : Bool) → GetsAs HoldsLeft memory answer (Ok selected) → none ≡ nat_eq (length (all_left selected.functions)) 0 → GetsAs IsEmpty memory answer (Ok none)
  empty_of selected none gets is = by_answer answer gets
    where
      by_answer : (answer : Option (Result SelectedSymbols Refusal)) → GetsAs HoldsLeft memory answer (Ok selected) → GetsAs IsEmpty memory answer (Ok none)
      by_answer None gets = absurd gets
      by_answer (Some (Err refusal)) gets = absurd gets
      by_answer (Some (Ok seen)) gets = is ∙ ap (λ (entries : List SectionEntry). nat_eq (length entries) 0) gets.0

  pub unasked : (e : ListError) (result : Result Bool ListError) → GetsAs HoldsLeft memory answer (Err e) → IsErrAnd result (λ f. f ≡ e) → GetsAs IsEmpty memory answer result
  unasked e (Ok none) gets is = absurd is
  unasked e (Err f) gets is = subst (λ (f : ListError). GetsAs IsEmpty memory answer (Err f)) (sym is) (by_answer answer gets)
    where
      by_answer : (answer : Option (Result SelectedSymbols Refusal)) → GetsAs HoldsLeft memory answer (Err e) → GetsAs IsEmpty memory answer (Err e)
      by_answer None gets = gets
      by_answer (Some (Err refusal)) gets = gets
      by_answer (Some (Ok seen)) gets = gets

  pub empty_is : (selected : SelectedSymbols) (none : Bool) → GetsAs IsEmpty memory answer (Ok none) → answer ≡ Some (Ok selected) → IsEmpty selected none
  empty_is selected none gets is = subst (λ (answer : Option (Result SelectedSymbols Refusal)). GetsAs IsEmpty memory answer (Ok none)) is gets

-- and nothing is written
module _ (e : ListError) (result : Result Seen Fault) where
  pub untaken : (IsText : SelectedSymbols → List ℕ → Type 0) (answer : Option (Result SelectedSymbols Refusal)) (old : Option (List ℕ)) → e ≢ listing.Write → IsErrAnd result (λ f. f ≡ list_fault e) → Takes IsText answer old old (outcome_of result)
  untaken IsText answer old other is = by_result result is
    where
      by_error : (e : ListError) → e ≢ listing.Write → Takes IsText answer old old (failure (list_fault e))
      by_error listing.Unknown other = nothing old
      by_error (listing.Parse p) other = nothing old
      by_error listing.OutOfMemory other = nothing old
      by_error listing.Write other = absurd (other refl)

      by_result : (result : Result Seen Fault) → IsErrAnd result (λ f. f ≡ list_fault e) → Takes IsText answer old old (outcome_of result)
      by_result (Ok x) is = absurd is
      by_result (Err f) is = subst (λ (f : Fault). Takes IsText answer old old (failure f)) (sym is) (by_error e other)

  pub unfailed : (failed : Bool) → e ≢ listing.Write → IsErrAnd result (λ f. f ≡ list_fault e) → Fails failed failed (outcome_of result)
  unfailed failed other is = by_result result is
    where
      by_error : (e : ListError) → e ≢ listing.Write → Fails failed failed (failure (list_fault e))
      by_error listing.Unknown other = refl
      by_error (listing.Parse p) other = refl
      by_error listing.OutOfMemory other = refl
      by_error listing.Write other = absurd (other refl)

      by_result : (result : Result Seen Fault) → IsErrAnd result (λ f. f ≡ list_fault e) → Fails failed failed (outcome_of result)
      by_result (Ok x) is = absurd is
      by_result (Err f) is = subst (λ (f : Fault). Fails failed failed (failure f)) (sym is) (by_error e other)

-- so if an allocation failed
pub none_taken : (IsText : SelectedSymbols → List ℕ → Type 0) (answer : Option (Result SelectedSymbols Refusal)) (old : Option (List ℕ)) (result : Result Seen Fault) → IsErrAnd result (λ f. f ≡ no_memory_fault) → Takes IsText answer old old (outcome_of result)
none_taken IsText answer old (Ok x) is = absurd is
none_taken IsText answer old (Err f) is = subst (λ (f : Fault). Takes IsText answer old old (failure f)) (sym is) (nothing old)
