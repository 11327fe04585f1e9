use Rattle.binfarce.specs.SymbolViews.{function_view}
use Rattle.binfarce_c.proofs.Drained.{one_more}
use Rattle.binfarce_c.proofs.functions.all_of.Goals as goal

pub loop-function-preserved : goal.loop-function-preserved
loop-function-preserved g c =
    rw c.in_ok-push.ensures.items
    (one_more function_view c.loop-function.yielded c.loop-function.all.items c.in-Some.function c.function_of.result c.loop-function.invariant c.function_of.ensures)
