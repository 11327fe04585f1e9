use Rattle.binfarce.specs.declared.SectionFunction.{SectionFunction}
use Rattle.binfarce.specs.SymbolViews.{function_view}
use Rattle.binfarce_c.proofs.Drained.{one_more}
use Rattle.binfarce_c.proofs.functions.each_of.Goals as goal

pub loop-listed-preserved : goal.loop-listed-preserved
loop-listed-preserved c =
    rw c.in_ok-push.ensures.items
    (one_more (λ (f : SectionFunction). function_view f.function) c.loop-listed.yielded c.loop-listed.all.items c.in-Some.listed c.function_of.result c.loop-listed.invariant c.function_of.ensures)
