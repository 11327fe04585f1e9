use Rattle.std.proofs.Common.{ℕ, Option, sym, subst, ◌∙◌, arith}
use Rattle.binfarce_c.specs.FunctionAt.{IsFound}
use Rattle.binfarce_c.proofs.FunctionAt.{higher, not_held}
use Rattle.binfarce_c.proofs.functions.found_with.Goals as goal

pub returns-then-not-holds : goal.returns-then-not-holds
returns-then-not-holds c before at is = not_held c.args.address before c.args.function c.args.found (sym c.holds.ensures ∙ c.if-not-holds.true) is

pub returns-else-function-highest : goal.returns-else-function-highest
returns-else-function-highest c before at is =
    higher c.args.address before c.args.function c.args.index c.in-Some.first c.in-Some.highest at (sym c.holds.ensures ∙ c.if-not-holds.false) (omega arith)
    (subst (λ (found : Option (ℕ × ℕ)). IsFound c.args.address before found) c.in-Some.is is)
