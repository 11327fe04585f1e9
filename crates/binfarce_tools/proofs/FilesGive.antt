-- What the reader of a Mach-O or PE file gives of the code section, or of the text, is the file's answer.
use Rattle.std.proofs.Common.{◌≡◌, ℕ, ◌≤◌, Bool, cond, ltb, List, map, length, Option, Some, Result, Ok, Err, sym, ap, subst, ◌∙◌, inl, inr}
use Rattle.std.specs.Global.{Vec}
use Rattle.std.specs.Result.{IsErrAnd}
use Rattle.std.proofs.lemmas.Bool.{le-ltb}
use Rattle.binfarce.specs.declared.ParseError.{ParseError}
use Rattle.binfarce.specs.declared.SectionFunction.{SectionFunction}
use Rattle.binfarce.specs.Macho as macho_file
use Rattle.binfarce.specs.MachoSelection as macho
use Rattle.binfarce.specs.Pe as pe_file
use Rattle.binfarce.specs.PeSelection as pe
use Rattle.binfarce.specs.Refusal.{◌>>=◌, Refusal, refusal_of, unexpected_eof}
use Rattle.binfarce.specs.SectionEntries.{SelectedSymbols}
use Rattle.binfarce.specs.MachoSymbols.{macho_answer, macho_file_answer}
use Rattle.binfarce.specs.PeSymbols.{pe_answer, pe_file_answer}
use Rattle.binfarce.specs.Symbol.{Answers, Listed}
use Rattle.binfarce.specs.SymbolViews.{section_function_view, HoldsSized}
use Rattle.binfarce_tools.specs.declared.functions.Selected.{Selected}
use Rattle.binfarce_tools.specs.Entries.{all_left, HoldsLeft, HoldsText}

-- these function symbols, and the size of their section
abbrev pub IsListed : Vec SectionFunction → Option ℕ → Selected → Type 0
IsListed functions size value = (all_left value.functions ≡ map section_function_view functions.items) × (value.size ≡ size)

-- function symbols that the reader of this own file gives, of which is asked of that file
module _ (N : List ℕ → Result SelectedSymbols Refusal → Type 0) (own file : List ℕ) (same : own ≡ file) (mine : List ℕ → Result SelectedSymbols Refusal) (answer : Result SelectedSymbols Refusal) (is : answer ≡ mine file) where
  as_own : {X : Type 0} (Holds : SelectedSymbols → X → Type 0) (result : Result X ParseError) → Answers Holds (N own) (mine own) result → Answers Holds (N file) answer result
  as_own Holds result h =
      subst (λ (a : Result SelectedSymbols Refusal). Answers Holds (N file) a result) (sym is) (subst (λ (f : List ℕ). Answers Holds (N f) (mine f) result) same h)

  held : (a : Result SelectedSymbols Refusal) (functions : Vec SectionFunction) (size : Option ℕ) (value : Selected) → Answers HoldsSized (N own) a (Ok (functions, size)) → IsListed functions size value → Answers HoldsLeft (N own) a (Ok value)
  held (Ok seen) functions size value h listed = (listed.0 ∙ h.0, listed.1 ∙ h.1)
  held (Err why) functions size value h listed = h

  pub given : (functions : Vec SectionFunction) (size : Option ℕ) (value : Selected) → Answers HoldsSized (N own) (mine own) (Ok (functions, size)) → IsListed functions size value → Answers HoldsLeft (N file) answer (Ok value)
  given functions size value h listed = as_own HoldsLeft (Ok value) (held (mine own) functions size value h listed)

  refused : (a : Result SelectedSymbols Refusal) (e : ParseError) (result : Result Selected ParseError) → Answers {X = Vec SectionFunction × Option ℕ} HoldsSized (N own) a (Err e) → IsErrAnd result (λ f. f ≡ e) → Answers HoldsLeft (N own) a result
  refused a e (Ok value) h err = absurd err
  refused (Ok seen) e (Err f) h err = (ap refusal_of err ∙ h.0, h.1)
  refused (Err why) e (Err f) (inl h) err = inl (ap refusal_of err ∙ h)
  refused (Err why) e (Err f) (inr h) err = inr (ap refusal_of err ∙ h.0, h.1)

  pub not_given : (e : ParseError) (result : Result Selected ParseError) → Answers {X = Vec SectionFunction × Option ℕ} HoldsSized (N own) (mine own) (Err e) → IsErrAnd result (λ f. f ≡ e) → Answers HoldsLeft (N file) answer result
  not_given e result h err = as_own HoldsLeft result (refused (mine own) e result h err)

-- a file that isn't too short
whole : {A : Type 0} (least : ℕ) (file : List ℕ) (answer : Result A Refusal) → least ≤ length file → cond (ltb (length file) least) (Err unexpected_eof) answer ≡ answer
whole least file answer long = ap (λ (short : Bool). cond short (Err unexpected_eof) answer) (le-ltb (length file) least long)

pub macho_is : (section : Option (List ℕ)) (file : List ℕ) → macho_file.least_length ≤ length file → macho.selected_file_answer section file ≡ macho.selected_answer section file
macho_is section file long = ap (λ (t : Result macho.SelectedTables Refusal). t >>= λ tables. Ok (macho.symbols_of tables)) (whole macho_file.least_length file (macho.selected_tables section file) long)

pub pe_is : (section : Option (List ℕ)) (file : List ℕ) → pe_file.least_length file ≤ length file → pe.selected_file_answer section file ≡ pe.selected_answer section file
pe_is section file long = whole (pe_file.least_length file) file (pe.selected_answer section file) long

-- the function symbols of the text, with their size
abbrev pub HoldsGiven : Listed → Vec SectionFunction × ℕ → Type 0
HoldsGiven listed given = (map (λ e. e.entry) (map section_function_view given.0.items) ≡ listed.entries) × (given.1 ≡ listed.section_size)

module _ (N : Result Listed Refusal → Type 0) (mine answer : Result Listed Refusal) (is : answer ≡ mine) where
  pub text_given : (functions : Vec SectionFunction) (size : ℕ) (value : Selected) → Answers HoldsGiven N mine (Ok (functions, size)) → IsListed functions (Some size) value → Answers HoldsText N answer (Ok value)
  text_given functions size value h listed = subst (λ (a : Result Listed Refusal). Answers HoldsText N a (Ok value)) (sym is) (by_answer mine h)
    where
      by_answer : (a : Result Listed Refusal) → Answers HoldsGiven N a (Ok (functions, size)) → Answers HoldsText N a (Ok value)
      by_answer (Ok seen) h = (ap (map (λ e. e.entry)) listed.0 ∙ h.0, listed.1 ∙ ap (λ (n : ℕ). Some n) h.1)
      by_answer (Err why) h = h

  pub text_not_given : (e : ParseError) (result : Result Selected ParseError) → Answers {X = Vec SectionFunction × ℕ} HoldsGiven N mine (Err e) → IsErrAnd result (λ f. f ≡ e) → Answers HoldsText N answer result
  text_not_given e (Ok value) h err = absurd err
  text_not_given e (Err f) h err = subst (λ (a : Result Listed Refusal). Answers {X = Selected} HoldsText N a (Err f)) (sym is) (by_answer mine h)
    where
      by_answer : (a : Result Listed Refusal) → Answers {X = Vec SectionFunction × ℕ} HoldsGiven N a (Err e) → Answers {X = Selected} HoldsText N a (Err f)
      by_answer (Ok seen) h = (ap refusal_of err ∙ h.0, h.1)
      by_answer (Err why) (inl h) = inl (ap refusal_of err ∙ h)
      by_answer (Err why) (inr h) = inr (ap refusal_of err ∙ h.0, h.1)

-- that of a file that isn't too short
pub macho_text_is : (file : List ℕ) → macho_file.least_length ≤ length file → macho_file_answer file ≡ macho_answer file
macho_text_is file long = whole macho_file.least_length file (macho_answer file) long

pub pe_text_is : (file : List ℕ) → pe_file.least_length file ≤ length file → pe_file_answer file ≡ pe_answer file
pe_text_is file long = whole (pe_file.least_length file) file (pe_answer file) long
