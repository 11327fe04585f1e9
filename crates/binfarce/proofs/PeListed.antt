-- The function symbols of a selection of a PE file, as its reader returns them.
use Rattle.std.proofs.Common.{◌≡◌, ◌≢◌, ℕ, List, [], map, Option, Some, None, Result, Ok, Err, inl, inr, refl, ap, subst, ◌∙◌}
use Rattle.std.specs.Global.{Vec}
use Rattle.std.specs.Result.{IsErr, IsErrAnd}
use Rattle.binfarce_bytes.specs.declared.error.ParseError.{ParseError}
use Rattle.binfarce_bytes.specs.declared.error.ParseError.TheVariants.{OutOfMemory}
use Rattle.binfarce_bytes.specs.declared.functions.FunctionSymbol.{FunctionSymbol}
use Rattle.binfarce_bytes.specs.declared.functions.SectionFunction.{SectionFunction}
use Rattle.binfarce_bytes.specs.Refusal.{◌>>=◌, Refusal, refusal_of}
use Rattle.binfarce_bytes.specs.Entries.{Entry, Listed, Answers, ListsSome}
use Rattle.binfarce_bytes.specs.SectionEntries.{SectionEntry, SelectedSymbols, SelectsSome, AnswersAll}
use Rattle.binfarce_bytes.specs.SymbolViews.{function_view, section_function_view, HoldsFunctions, HoldsSized}
use Rattle.binfarce_pe.specs.PeSelection.{HasSection, all_answer, selected_answer}
use Rattle.binfarce_pe.specs.PeSymbols.{pe_answer}
use Rattle.binfarce_pe.proofs.EachSection.{mapped_some}
use Rattle.binfarce_pe.proofs.Selected.{HoldsText, has_section}

module _ (file : List ℕ) where
  -- an error, as `?` passes it on
  pub functions_err : {X : Type 0} (Holds : Listed → X → Type 0) (e : ParseError) (r : Result X ParseError)
      → Answers {X = Vec SectionFunction × ℕ} HoldsText ListsSome (pe_answer file) (Err e) → (IsErr r × IsErrAnd r (λ x. x ≡ e)) → Answers Holds ListsSome (pe_answer file) r
  functions_err Holds e (Ok x) given is = absurd cc
  functions_err {X} Holds e (Err x) given is = by_answer (pe_answer file) given
    where
      by_answer : (a : Result Listed Refusal) → Answers {X = Vec SectionFunction × ℕ} HoldsText ListsSome a (Err e) → Answers {X = X} Holds ListsSome a (Err x)
      by_answer (Ok listed) h = (ap refusal_of is.1 ∙ h.0, h.1)
      by_answer (Err why) (inl same) = inl (ap refusal_of is.1 ∙ same)
      by_answer (Err why) (inr memory) = inr (ap refusal_of is.1 ∙ memory.0, memory.1)

  module _ (functions : Vec SectionFunction) (size : ℕ) (given : List SectionFunction) (holds : Answers HoldsText ListsSome (pe_answer file) (Ok (functions, size))) (same : given ≡ functions.items) where
    -- a failed allocation of a list that isn't empty
    pub functions_memory : {X : Type 0} (Holds : Listed → X → Type 0) (r : Result X ParseError) → given ≢ [] → (IsErr r × IsErrAnd r (λ x. x ≡ OutOfMemory)) → Answers Holds ListsSome (pe_answer file) r
    functions_memory Holds (Ok x) some is = absurd cc
    functions_memory {X} Holds (Err x) some is = by_answer (pe_answer file) holds
      where
        by_answer : (a : Result Listed Refusal) → Answers HoldsText ListsSome a (Ok (functions, size)) → Answers {X = X} Holds ListsSome a (Err x)
        by_answer (Err why) h = absurd h
        by_answer (Ok listed) h = (
          ap refusal_of is.1,
          subst (λ (es : List Entry). es ≢ []) (ap (λ (fs : List SectionFunction). map (λ e. e.entry) (map section_function_view fs)) same ∙ h.0)
              (mapped_some (λ (s : SectionEntry). s.entry) (map section_function_view given) (mapped_some section_function_view given some)),
        )

    pub functions_ok : (alone : Vec FunctionSymbol) → map function_view alone.items ≡ map (λ e. e.entry) (map section_function_view given) → Answers HoldsFunctions ListsSome (pe_answer file) (Ok (alone, size))
    functions_ok alone are = by_answer (pe_answer file) holds
      where
        by_answer : (a : Result Listed Refusal) → Answers HoldsText ListsSome a (Ok (functions, size)) → Answers HoldsFunctions ListsSome a (Ok (alone, size))
        by_answer (Err why) h = h
        by_answer (Ok listed) h = (are ∙ ap (λ (fs : List SectionFunction). map (λ e. e.entry) (map section_function_view fs)) same ∙ h.0, h.1)

-- an error for all sections
pub all_err : {X : Type 0} (Holds : List SectionEntry → X → Type 0) (file : List ℕ) (e : ParseError) (r : Result X ParseError)
    → Answers HoldsSized SelectsSome (selected_answer None file) (Err e) → (IsErr r × IsErrAnd r (λ x. x ≡ e)) → AnswersAll Holds (HasSection file) (all_answer file) r
all_err {X} Holds file e r given is = by_answer (selected_answer None file) (has_section file) r given is
  where
    by_answer : (answer : Result SelectedSymbols Refusal) → ((selected : SelectedSymbols) → answer ≡ Ok selected → selected.entries ≢ [] → HasSection file) → (r : Result X ParseError)
        → Answers HoldsSized SelectsSome answer (Err e) → (IsErr r × IsErrAnd r (λ x. x ≡ e)) → AnswersAll Holds (HasSection file) (answer >>= λ selected. Ok selected.entries) r
    by_answer answer has (Ok x) given is = absurd cc
    by_answer (Ok selected) has (Err x) given is = (ap refusal_of is.1 ∙ given.0, has selected refl given.1)
    by_answer (Err why) has (Err x) (inl same) is = inl (ap refusal_of is.1 ∙ same)
    by_answer (Err why) has (Err x) (inr memory) is = absurd memory.1
