use Rattle.std.proofs.Common.{List, ◌∙◌, map, subst}
use Rattle.binfarce.specs.declared.FunctionSymbol.{FunctionSymbol}
use Rattle.binfarce.specs.SymbolViews.{function_view}
use Rattle.binfarce_c.specs.Functions.{AreFunctionsOf}
use Rattle.binfarce_c.proofs.Drained.{given_is}
use Rattle.binfarce_c.proofs.functions.all_stored.Goals as goal

pub returns : goal.returns
returns c =
    let functions = c.args.list in
    let made = c.in_ok-all_of.ensures in
    subst (λ (given : List FunctionSymbol). AreFunctionsOf (map function_view given) c.in_ok-all_of.field-0.items)
    (given_is c.into_iter.result functions.items made.0 c.into_iter.ensures.rest (c.into_iter.ensures.len ∙ functions.ok.0) made.1) made.2
