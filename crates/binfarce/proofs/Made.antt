-- Symbols made of function symbols, one after the other.
use Rattle.std.proofs.Common.{◌≡◌, ◌≢◌, ℕ, List, [], ◌∷◌, ◌++◌, map, Some, Result, Ok, Err, IfOk, OnErr, refl, ap, subst, ◌∙◌}
use Rattle.std.specs.declared.alloc.AllocError.{AllocError}
use Rattle.std.specs.declared.iter.Copied.{Copied}
use Rattle.std.specs.declared.slice.Iter.{Iter}
use Rattle.std.specs.Global.{Vec}
use Rattle.std.specs.Iterator.{YieldsFirstBy, Drains}
use Rattle.std.specs.Iterator.Adapters.{copied_source, copied_steps}
use Rattle.std.specs.Slice.Iter.{iter_rest, iter_steps}
use Rattle.binfarce_names.specs.declared.demangle.SymbolData.{SymbolData}
use Rattle.binfarce_bytes.specs.Refusal.{Refusal}
use Rattle.binfarce_bytes.specs.declared.functions.FunctionSymbol.{FunctionSymbol}
use Rattle.binfarce_bytes.specs.Entries.{Entry, Listed, Answers}
use Rattle.binfarce_bytes.specs.SymbolViews.{function_view, HoldsFunctions}
use Rattle.binfarce_bytes.proofs.Drained.{drained, copies_are}
use Rattle.binfarce_macho.proofs.MachoAnswers.{copy_of}
use Rattle.binfarce.specs.Symbol.{IsSymbolOf, AreSymbolsOf, HoldsSymbols}

-- the symbol of one more function symbol
pub one_more_symbol : (given : List FunctionSymbol) (symbols : List SymbolData) (function : FunctionSymbol) (symbol : SymbolData)
    → AreSymbolsOf (map function_view given) symbols → IsSymbolOf (function_view function) symbol
    → AreSymbolsOf (map function_view (given ++ function ∷ [])) (symbols ++ symbol ∷ [])
one_more_symbol [] [] function symbol are is = (is, tt)
one_more_symbol [] (s ∷ symbols) function symbol are is = absurd are
one_more_symbol (f ∷ given) [] function symbol are is = absurd are
one_more_symbol (f ∷ given) (s ∷ symbols) function symbol are is = (are.0, one_more_symbol given symbols function symbol are.1 is)

-- where function symbols are an answer, the symbols of all of them are that answer
pub symbols_held : (Needs : Result Listed Refusal → Type 0) (answer : Result Listed Refusal) (functions : Vec FunctionSymbol) (size : ℕ) (given : List FunctionSymbol) (symbols : Vec SymbolData)
    → Answers HoldsFunctions Needs answer (Ok (functions, size)) → given ≡ functions.items → AreSymbolsOf (map function_view given) symbols.items
    → Answers HoldsSymbols Needs answer (Ok (symbols, size))
symbols_held Needs (Ok listed) functions size given symbols holds same are =
    (subst (λ (es : List Entry). AreSymbolsOf es symbols.items) (ap (map function_view) same ∙ holds.0) are, holds.1)
symbols_held Needs (Err refusal) functions size given symbols holds same are = absurd holds

-- what an iterator's function symbols became are the symbols of what it had left
pub symbols_are : {S : Type 0} (left : S → List Entry) (functions : S) (made : Result (Vec SymbolData) AllocError)
    → IfOk made (λ v. (given : List FunctionSymbol) × Drains (YieldsFirstBy function_view left) functions given × AreSymbolsOf (map function_view given) v.items)
    → IfOk made (λ v. AreSymbolsOf (left functions) v.items)
symbols_are left functions (Ok v) are = subst (λ (entries : List Entry). AreSymbolsOf entries v.items) (drained function_view left functions are.0 are.1) are.2
symbols_are left functions (Err e) are = are

module _ (copies : Copied (Iter FunctionSymbol)) (functions : List FunctionSymbol) where
  -- what a list's copies became are its symbols
  pub symbols_of_copies : (made : Result (Vec SymbolData) AllocError) → iter_rest (copied_source copies) ≡ functions
      → IfOk made (λ v. (given : List FunctionSymbol) × Drains (copied_steps iter_steps) copies given × AreSymbolsOf (map function_view given) v.items)
      → IfOk made (λ v. AreSymbolsOf (map function_view functions) v.items)
  symbols_of_copies (Ok v) same are = subst (λ (given : List FunctionSymbol). AreSymbolsOf (map function_view given) v.items) (copies_are copies are.0 are.1 ∙ same) are.2
  symbols_of_copies (Err e) same are = are

  -- a list with a first copy isn't empty
  pub some_copies : (made : Result (Vec SymbolData) AllocError) → iter_rest (copied_source copies) ≡ functions
      → OnErr made ((first : FunctionSymbol) × (after : Copied (Iter FunctionSymbol)) × copied_steps iter_steps copies (Some first) after)
      → OnErr made (functions ≢ [])
  some_copies (Ok v) same some = some
  some_copies (Err e) same some = let at = copy_of copies some.1 some.0 some.2 in λ none. cc (at.2, same, none)

-- the first of a list that isn't empty, and the others
pub first_of : {A : Type 0} (xs : List A) → xs ≢ [] → (first : A) × (others : List A) × (xs ≡ first ∷ others)
first_of [] some = absurd (some refl)
first_of (x ∷ xs) some = (x, xs, refl)
