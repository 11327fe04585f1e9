-- The answer of a Mach-O file's function symbols from its parts, and the answer that their symbols are.
use Rattle.std.proofs.Common.{◌≡◌, ◌≢◌, ℕ, List, [], ◌∷◌, map, Option, Some, None, Result, Ok, Err, IsErrAnd, Bor, inl, inr, refl, sym, ap, subst, ◌∙◌}
use Rattle.std.specs.declared.iter.Copied.{Copied}
use Rattle.std.specs.declared.slice.Iter.{Iter}
use Rattle.std.specs.Option.{option_copied}
use Rattle.std.specs.Global.{Vec}
use Rattle.std.specs.Iterator.Adapters.{copied_source, copied_steps}
use Rattle.std.specs.Slice.Iter.{iter_rest, iter_steps}
use Rattle.binfarce_bytes.specs.declared.error.ParseError.{ParseError}
use Rattle.binfarce_bytes.specs.declared.error.ParseError.TheVariants.{OutOfMemory}
use Rattle.binfarce_bytes.specs.Refusal.{◌>>=◌, Refusal, refusal_of}
use Rattle.binfarce_bytes.specs.declared.functions.FunctionSymbol.{FunctionSymbol}
use Rattle.binfarce_bytes.specs.Entries.{Entry, Listed, Answers}
use Rattle.binfarce_bytes.specs.SymbolViews.{function_view, HoldsFunctions}
use Rattle.binfarce_bytes.specs.Sizes.{RowAddress, arranged}
use Rattle.binfarce_macho.specs.MachoSymbols.{Located, located, answer_of, macho_answer, entry_of, kept, row_addresses, HasAddress}

module _ {L X : Type 0} (Holds : L → X → Type 0) where
  -- an allocation failed where the answer needs one
  pub out_of_memory_answers : (Needs : Result L Refusal → Type 0) (answer : Result L Refusal) (result : Result X ParseError) → Needs answer → IsErrAnd result (λ e. e ≡ OutOfMemory) → Answers Holds Needs answer result
  out_of_memory_answers Needs answer (Ok value) needs is = absurd is
  out_of_memory_answers Needs (Ok listed) (Err e) needs is = (ap refusal_of is, needs)
  out_of_memory_answers Needs (Err why) (Err e) needs is = inr (ap refusal_of is, needs)

  -- a refusal that a `?` passes on
  pub refusal_answers : (Needs : Result L Refusal → Type 0) (answer : Result L Refusal) (error : ParseError) (result : Result X ParseError) → answer ≡ Err (refusal_of error) → IsErrAnd result (λ e. e ≡ error) → Answers Holds Needs answer result
  refusal_answers Needs answer error (Ok value) at is = absurd is
  refusal_answers Needs answer error (Err e) at is = rw (at, is) (inl refl)

  -- the value holds the answer
  pub value_answers : (Needs : Result L Refusal → Type 0) (answer : Result L Refusal) (held : L) (value : X) → answer ≡ Ok held → Holds held value → Answers Holds Needs answer (Ok value)
  value_answers Needs answer held value is holds = rw is holds

  -- a call whose answer is the same returned an error, or a value
  module _ {Y : Type 0} (Given : L → Y → Type 0) (N M : Type 0) (a b : Result L Refusal) (same : a ≡ b) where
    pub error_answers : (error : ParseError) (result : Result X ParseError) → (N → M) → Answers Given (λ _. N) a (Err error) → IsErrAnd result (λ e. e ≡ error) → Answers Holds (λ _. M) b result
    error_answers error (Ok value) more given is = absurd is
    error_answers error (Err e) more given is = subst (λ (x : Result L Refusal). Answers Holds (λ _. M) x (Err e)) same (by_case a given)
      where
        by_case : (a : Result L Refusal) → Answers Given (λ _. N) a (Err error) → Answers Holds (λ _. M) a (Err e)
        by_case (Ok held) h = (ap refusal_of is ∙ h.0, more h.1)
        by_case (Err why) (inl refused) = inl (ap refusal_of is ∙ refused)
        by_case (Err why) (inr both) = inr (ap refusal_of is ∙ both.0, more both.1)

    pub given_answers : (given : Y) (value : X) → ((held : L) → Given held given → Holds held value) → Answers Given (λ _. N) a (Ok given) → Answers Holds (λ _. M) b (Ok value)
    given_answers given value each h = subst (λ (x : Result L Refusal). Answers Holds (λ _. M) x (Ok value)) same (by_case a h)
      where
        by_case : (a : Result L Refusal) → Answers Given (λ _. N) a (Ok given) → Answers Holds (λ _. M) a (Ok value)
        by_case (Ok held) h = each held h
        by_case (Err why) h = h

  -- the same answer, where all that needed memory does
  pub same_answer : (N M : Type 0) (a b : Result L Refusal) (result : Result X ParseError) → a ≡ b → (N → M) → Answers Holds (λ _. N) a result → Answers Holds (λ _. M) b result
  same_answer N M a b result same more answers = subst (λ (x : Result L Refusal). Answers Holds (λ _. M) x result) same (by_case a result answers)
    where
      by_case : (a : Result L Refusal) (result : Result X ParseError) → Answers Holds (λ _. N) a result → Answers Holds (λ _. M) a result
      by_case (Ok listed) (Ok value) h = h
      by_case (Ok listed) (Err e) h = (h.0, more h.1)
      by_case (Err why) (Ok value) h = h
      by_case (Err why) (Err e) (inl is) = inl is
      by_case (Err why) (Err e) (inr both) = inr (both.0, more both.1)

module _ (file : List ℕ) where
  -- a list that isn't empty needs a table with an address
  pub needs_address : (listed : Listed) (entry : Entry) (others : List Entry) → macho_answer file ≡ Ok listed → listed.entries ≡ entry ∷ others → HasAddress file
  unfolding macho_answer answer_of kept arranged
  needs_address listed entry others is some = by_location (located file) refl is
    where
      not_nothing : (size : ℕ) → record { entries = []; section_size = size } ≡ listed → ⊥
      not_nothing size nothing = cc (ap (λ (l : Listed). l.entries) nothing, some)

      by_rows : (found : Located) (rows : List RowAddress) → row_addresses found.rows ≡ rows → (kept (entry_of found) (arranged rows) >>= λ entries. Ok (record { entries = entries; section_size = found.text_size })) ≡ Ok listed → row_addresses found.rows ≢ []
      by_rows found [] e is = let nothing : record { entries = []; section_size = found.text_size } ≡ listed = cc in absurd (not_nothing found.text_size nothing)
      by_rows found (row ∷ rows) e is = λ none. cc (e, none)

      by_location : (r : Result (Option Located) Refusal) → located file ≡ r → (r >>= answer_of) ≡ Ok listed → HasAddress file
      by_location (Err why) e is = absurd cc
      by_location (Ok None) e is = let nothing : record { entries = []; section_size = 0 } ≡ listed = cc in absurd (not_nothing 0 nothing)
      by_location (Ok (Some found)) e is = record { found = found; is_located = e; some = by_rows found (row_addresses found.rows) refl is }

module _ {A : Type 0} where
  -- where a copy comes, the slice isn't empty
  pub copy_of : (s t : Copied (Iter A)) (x : A) → copied_steps iter_steps s (Some x) t → (first : A) × (others : List A) × (iter_rest (copied_source s) ≡ first ∷ others)
  copy_of s t x step = by_case step.0 step.1 step.2
    where
      by_case : (o : Option (Bor A)) → iter_steps (copied_source s) o (copied_source t) → Some x ≡ option_copied o → (first : A) × (others : List A) × (iter_rest (copied_source s) ≡ first ∷ others)
      by_case None here is = absurd cc
      by_case (Some y) here is = (y.now, iter_rest (copied_source t), here)

-- where function symbols are held, the table has an address
pub functions_need_address : (file : List ℕ) (functions : Vec FunctionSymbol) (size : ℕ) (first : FunctionSymbol) (others : List FunctionSymbol)
    → Answers HoldsFunctions (λ _. HasAddress file) (macho_answer file) (Ok (functions, size)) → functions.items ≡ first ∷ others → HasAddress file
functions_need_address file functions size first others holds some = by_case (macho_answer file) refl holds
  where
    by_case : (answer : Result Listed Refusal) → macho_answer file ≡ answer → Answers HoldsFunctions (λ _. HasAddress file) answer (Ok (functions, size)) → HasAddress file
    by_case (Ok listed) is h = needs_address file listed (function_view first) (map function_view others) is (sym h.0 ∙ ap (map function_view) some)
    by_case (Err why) is h = absurd h
