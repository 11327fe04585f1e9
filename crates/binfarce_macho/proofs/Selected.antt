-- What a file answers for a selection.
use Rattle.std.proofs.Common.{◌≡◌, ◌≢◌, ℕ, List, [], map, Option, None, Result, Ok, Err, IsErrAnd, ◌⊎◌, inl, inr, refl, sym, ap, ◌∙◌}
use Rattle.std.specs.Global.{Vec}
use Rattle.binfarce_bytes.specs.declared.error.ParseError.{ParseError}
use Rattle.binfarce_bytes.specs.declared.functions.SectionFunction.{SectionFunction}
use Rattle.binfarce_bytes.specs.Refusal.{◌>>=◌, Refusal, refusal_of, out_of_memory}
use Rattle.binfarce_bytes.specs.Entries.{Answers}
use Rattle.binfarce_bytes.specs.SectionEntries.{SelectedSymbols, AnswersAll}
use Rattle.binfarce_bytes.specs.SymbolViews.{HoldsSectionFunctions, HoldsSized}
use Rattle.binfarce_macho.specs.MachoSections.{HasSection, section_starts, numbered_at, numbered_sections}
use Rattle.binfarce_macho.specs.MachoSelection.{CodeSection, SelectedSections, code_of, sections_in, selected_tables, entries_in, section_size, symbols_of, selected_answer, all_answer}
use Rattle.binfarce_macho.specs.MachoSymbols.{SymtabCommand, Symbols, table_of, symbols_by}
use Rattle.binfarce_macho.proofs.MachoAnswers.{refusal_answers}
use Rattle.binfarce_macho.proofs.SectionLists.{has_start}

-- sections that are numbered are some of the file's
pub some_numbered : (section : Option (List ℕ)) (file : List ℕ) (selected : SelectedSections) → sections_in section file ≡ Ok selected → selected.sections ≢ [] → HasSection file
unfolding sections_in numbered_sections
some_numbered section file selected at some = by_starts (section_starts file) refl at
  where
    by_code : (starts : List ℕ) → section_starts file ≡ Ok starts → (r : Result (Option CodeSection) Refusal) → (r >>= λ code. Ok (record { sections = map (numbered_at file) starts; code = code })) ≡ Ok selected → HasSection file
    by_code starts e (Err why) is = absurd cc
    by_code starts e (Ok code) is =
        let same : record { sections = map (numbered_at file) starts; code = code } ≡ selected = cc in
        has_start file starts e (λ none. some (ap (λ (s : SelectedSections). s.sections) (sym same) ∙ ap (map (numbered_at file)) none))

    by_starts : (r : Result (List ℕ) Refusal) → section_starts file ≡ r
        → ((r >>= λ starts. Ok (map (numbered_at file) starts)) >>= λ sections. code_of section sections >>= λ code. Ok (record { sections = sections; code = code })) ≡ Ok selected → HasSection file
    by_starts (Err why) e is = absurd cc
    by_starts (Ok starts) e is = by_code starts e (code_of section (map (numbered_at file) starts)) is

module _ (section : Option (List ℕ)) (file : List ℕ) where
  pub sections_refused : (why : Refusal) → sections_in section file ≡ Err why → selected_answer section file ≡ Err why
  unfolding selected_tables
  sections_refused why at = rw at refl

  -- the sections were refused, or an allocation failed
  pub sections_unread : (error : ParseError) (result : Result (Vec SectionFunction × Option ℕ) ParseError) → (sections_in section file ≡ Err (refusal_of error)) ⊎ ((refusal_of error ≡ out_of_memory) × HasSection file)
      → IsErrAnd result (λ e. e ≡ error) → Answers HoldsSized (λ _. HasSection file) (selected_answer section file) result
  sections_unread error (Ok value) why is = absurd is
  sections_unread error result (inl refused) is = refusal_answers HoldsSized (λ _. HasSection file) (selected_answer section file) error result (sections_refused (refusal_of error) refused) is
  sections_unread error (Err e) (inr out) is = by_answer (selected_answer section file)
    where
      by_answer : (answer : Result SelectedSymbols Refusal) → Answers {X = Vec SectionFunction × Option ℕ} HoldsSized (λ _. HasSection file) answer (Err e)
      by_answer (Ok selected) = (ap refusal_of is ∙ out.0, out.1)
      by_answer (Err why) = inr (ap refusal_of is ∙ out.0, out.1)

  module _ (sections : SelectedSections) (at : sections_in section file ≡ Ok sections) where
    pub table_refused : (why : Refusal) → table_of file ≡ Err why → selected_answer section file ≡ Err why
    unfolding selected_tables
    table_refused why is = rw (at, is) refl

    module _ (table : Option (SymtabCommand ℕ)) (tables : table_of file ≡ Ok table) where
      pub symbols_refused : (why : Refusal) → symbols_by file table ≡ Err why → selected_answer section file ≡ Err why
      unfolding selected_tables
      symbols_refused why is = rw (at, tables, is) refl

      module _ (symbols : Option Symbols) (is : symbols_by file table ≡ Ok symbols) where
        made : selected_answer section file ≡ Ok (symbols_of (record { sections = sections; symbols = symbols }))
        unfolding selected_tables
        made = rw (at, tables, is) refl

        pub functions_selected : (N M : Type 0) (functions : Vec SectionFunction) (size : Option ℕ) → size ≡ section_size sections
            → Answers HoldsSectionFunctions (λ _. N) (Ok (entries_in sections symbols)) (Ok functions) → Answers HoldsSized (λ _. M) (selected_answer section file) (Ok (functions, size))
        functions_selected N M functions size size_is given = rw made (given, size_is)

        pub error_selected : (N M : Type 0) (error : ParseError) (result : Result (Vec SectionFunction × Option ℕ) ParseError) → (N → M)
            → Answers {X = Vec SectionFunction} HoldsSectionFunctions (λ _. N) (Ok (entries_in sections symbols)) (Err error) → IsErrAnd result (λ e. e ≡ error) → Answers HoldsSized (λ _. M) (selected_answer section file) result
        error_selected N M error (Ok value) more given is_error = absurd is_error
        error_selected N M error (Err e) more given is_error = rw made (ap refusal_of is_error ∙ given.0, more given.1)

-- the function symbols of all sections
pub all_answered : (file : List ℕ) (functions : Vec SectionFunction) (size : Option ℕ) → Answers HoldsSized (λ _. HasSection file) (selected_answer None file) (Ok (functions, size))
    → AnswersAll HoldsSectionFunctions (HasSection file) (all_answer file) (Ok functions)
unfolding all_answer
all_answered file functions size given = by_answer (selected_answer None file) given
  where
    by_answer : (a : Result SelectedSymbols Refusal) → Answers HoldsSized (λ _. HasSection file) a (Ok (functions, size)) → AnswersAll HoldsSectionFunctions (HasSection file) (a >>= λ selected. Ok selected.entries) (Ok functions)
    by_answer (Ok selected) h = h.0
    by_answer (Err why) h = h

pub all_error : (file : List ℕ) (error : ParseError) (result : Result (Vec SectionFunction) ParseError) → Answers {X = Vec SectionFunction × Option ℕ} HoldsSized (λ _. HasSection file) (selected_answer None file) (Err error)
    → IsErrAnd result (λ e. e ≡ error) → AnswersAll HoldsSectionFunctions (HasSection file) (all_answer file) result
unfolding all_answer
all_error file error (Ok value) given is = absurd is
all_error file error (Err e) given is = by_answer (selected_answer None file) given
  where
    by_answer : (a : Result SelectedSymbols Refusal) → Answers {X = Vec SectionFunction × Option ℕ} HoldsSized (λ _. HasSection file) a (Err error) → AnswersAll {X = Vec SectionFunction} HoldsSectionFunctions (HasSection file) (a >>= λ selected. Ok selected.entries) (Err e)
    by_answer (Ok selected) h = (ap refusal_of is ∙ h.0, h.1)
    by_answer (Err why) (inl refused) = inl (ap refusal_of is ∙ refused)
    by_answer (Err why) (inr both) = inr (ap refusal_of is ∙ both.0, both.1)
