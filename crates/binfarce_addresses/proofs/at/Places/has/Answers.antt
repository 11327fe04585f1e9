use Rattle.std.proofs.Common.{◌≡◌, ◌∙◌, ℕ, List, [], ◌∷◌, Bool, ap, map, refl, rules, sym, tests}
use Rattle.std.specs.Prelude.{◌||◌}
use Rattle.std.proofs.lemmas.Iterator.{YieldsList-from_slice}
use Rattle.std.proofs.lemmas.Iterator.Search.{any_from_yields_List}
use Rattle.std.specs.List.{list_any}
use Rattle.std.specs.Str.{bytes_eq}
use Rattle.binfarce.specs.Symbol.{Entry}
use Rattle.binfarce.specs.SymbolViews.{function_view}
use Rattle.binfarce.specs.declared.FunctionSymbol.{FunctionSymbol}
use Rattle.binfarce_addresses.specs.Lookup.{has_symbol}
use Rattle.binfarce_addresses.proofs.at.Places.has.Goals as goal

-- the names of entries are those of their functions
by_functions : (functions : List FunctionSymbol) (name : List ℕ) → has_symbol (map function_view functions) name ≡ list_any (λ (f : FunctionSymbol). bytes_eq f.name.now name) functions
by_functions [] name = refl
by_functions (f ∷ functions) name = ap (λ (b : Bool). bytes_eq f.name.now name || b) (by_functions functions name)

pub returns : goal.returns
returns c =
    let functions = c.self.inside.functions.items in
    let name = c.args.name.now in
    let any : c.any.result ≡ list_any (λ (f : FunctionSymbol). bytes_eq f.name.now name) functions =
    any_from_yields_List (λ (f : FunctionSymbol). bytes_eq f.name.now name) _ _ c.any.result c.any.ensures.ran (YieldsList-from_slice functions (cc)) (λ x b q k. search (rules, tests)) in
    any ∙ sym (by_functions functions name) ∙ ap (λ (entries : List Entry). has_symbol entries name) c.self.view_is
