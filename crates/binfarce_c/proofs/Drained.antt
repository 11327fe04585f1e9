-- Function symbols that become a caller's, and the lengths of ELF's file headers.
use Rattle.std.proofs.Common.{◌≡◌, ℕ, List, [], ◌∷◌, ◌++◌, length, map, Result, Ok, Err, refl, sym, ap, subst, ◌∙◌}
use Rattle.std.proofs.lemmas.Iterator.{items_from_drains}
use Rattle.std.proofs.lemmas.Iterator.Adapters.{YieldsList-from_vec}
use Rattle.std.proofs.lemmas.List.{map-id}
use Rattle.std.specs.declared.vec.IntoIter.{IntoIter}
use Rattle.std.specs.Global.{Vec}
use Rattle.std.specs.Iterator.{YieldsFirstBy, Drains}
use Rattle.std.specs.Vec.Iter.{into_iter_items, into_iter_len, into_iter_steps}
use Rattle.binfarce.specs.declared.FunctionSymbol.{FunctionSymbol}
use Rattle.binfarce.specs.Elf.{elf32, elf64}
use Rattle.binfarce.specs.Refusal.{Refusal}
use Rattle.binfarce.specs.Symbol.{Answers, Entry, Listed}
use Rattle.binfarce.specs.SymbolViews.{function_view, HoldsFunctions}
use Rattle.binfarce_c.specs.declared.functions.Function.{Function}
use Rattle.binfarce_c.specs.Functions.{AreFunctionsOf, IsFunctionOf}
use Rattle.binfarce_c.specs.machine.Found.{HoldsFound}

pub of_32_bits : elf32.header_length ≡ 52
unfolding elf32
of_32_bits = refl

pub of_64_bits : elf64.header_length ≡ 64
unfolding elf64
of_64_bits = refl

-- the function of one more function symbol
pub one_more : {A : Type 0} (view : A → Entry) (given : List A) (all : List Function) (symbol : A) (function : Function)
    → AreFunctionsOf (map view given) all → IsFunctionOf (view symbol) function
    → AreFunctionsOf (map view (given ++ symbol ∷ [])) (all ++ function ∷ [])
one_more view [] [] symbol function are is = (is, tt)
one_more view [] (f ∷ all) symbol function are is = absurd are
one_more view (g ∷ given) [] symbol function are is = absurd are
one_more view (g ∷ given) (f ∷ all) symbol function are is = (are.0, one_more view given all symbol function are.1 is)

-- what an iterator gave, of which a list is left, is that list
drained : {S A B : Type 0} (view : A → B) (rest : S → List B) (s : S) (given : List A) → Drains (YieldsFirstBy view rest) s given → map view given ≡ rest s
drained view rest s [] d = sym (ap rest d.1.1 ∙ d.1.2.0)
drained {B = B} view rest s (x ∷ given) d =
    let yields = d.1.1 in
    ap (λ (ys : List B). view x ∷ ys) (drained view rest yields.0 given (d.0, (d.1.0, yields.2, d.1.2))) ∙ sym yields.1

-- what the function symbols that were left became are those of what was left
all_left : {S : Type 0} (rest : S → List Entry) (functions : S) (given : List FunctionSymbol) (all : List Function) → Drains (YieldsFirstBy function_view rest) functions given
    → AreFunctionsOf (map function_view given) all → AreFunctionsOf (rest functions) all
all_left rest functions given all drains are = subst (λ (entries : List Entry). AreFunctionsOf entries all) (drained function_view rest functions given drains) are

-- what a vector gave, item by item, is its items
pub given_is : {A Z : Type 0} (s : IntoIter A Z) (xs given : List A) → into_iter_items s ≡ xs → into_iter_len s ≡ length xs → Drains (into_iter_steps {X = A} {Z = Z}) s given → given ≡ xs
given_is s xs given items len d = sym (map-id given) ∙ items_from_drains given (d.1.0, d.1.1, λ _. (d.0, d.1.2)) (YieldsList-from_vec xs items len)

-- where function symbols are an answer, what they became is that answer
pub held : (Needs Needs' : Result Listed Refusal → Type 0) (answer : Result Listed Refusal) (functions : Vec FunctionSymbol) (size : ℕ) (all : Vec Function)
    → Answers HoldsFunctions Needs answer (Ok (functions, size)) → AreFunctionsOf (map function_view functions.items) all.items
    → Answers HoldsFound Needs' answer (Ok (all, size))
held Needs Needs' (Ok listed) functions size all holds are = (subst (λ (entries : List Entry). AreFunctionsOf entries all.items) holds.0 are, holds.1)
held Needs Needs' (Err refusal) functions size all holds are = absurd holds

-- where function symbols that were left are an answer, what they became is that answer
pub held_left : {S : Type 0} (rest : S → List Entry) (Needs : Result Listed Refusal → Type 0) (answer : Result Listed Refusal) (functions : S) (size : ℕ) (given : List FunctionSymbol) (all : Vec Function)
    → answer ≡ Ok (record { entries = rest functions; section_size = size }) → Drains (YieldsFirstBy function_view rest) functions given
    → AreFunctionsOf (map function_view given) all.items → Answers HoldsFound Needs answer (Ok (all, size))
held_left rest Needs answer functions size given all is drains are =
    subst (λ (a : Result Listed Refusal). Answers HoldsFound Needs a (Ok (all, size))) (sym is) (all_left rest functions given all.items drains are, refl)
