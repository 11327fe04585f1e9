use Rattle.std.proofs.Common.{ℕ, Option, take, subst, arith}
use Rattle.binfarce_c.specs.FunctionAt.{IsFound}
use Rattle.binfarce_c.proofs.FunctionAt.{next, none_at_end}
use Rattle.binfarce_c.proofs.functions.binfarce_function_at.Goals as goal

pub loop-index-preserved : goal.loop-index-preserved
loop-index-preserved c = next c.args.address c.args.functions.now c.loop-index.index _ c.loop-index.found c.found_with-found.result (omega arith) c.found_with-found.ensures c.loop-index.invariant

pub returns-in-None : goal.returns-in-None
returns-in-None c =
    none_at_end c.args.address c.args.functions.now c.loop-index.index (omega arith)
    (subst (λ (found : Option (ℕ × ℕ)). IsFound c.args.address (take c.loop-index.index c.args.functions.now) found) c.in-None.is c.loop-index.invariant)
