use Rattle.std.proofs.Common.{sym, ◌∙◌}
use Rattle.binfarce_bytes.proofs.FoundLaws.{it_holds_not, it_is_first, it_is_higher}
use Rattle.binfarce_bytes.proofs.functions.found_with.Goals as goal

pub returns-then-not-holds : goal.returns-then-not-holds
returns-then-not-holds c before same = it_holds_not before c.args.function c.args.address c.args.found same (sym c.holds.ensures ∙ c.if-not-holds.true)

pub returns-in-None : goal.returns-in-None
returns-in-None c before same = it_is_first before c.args.function c.args.address c.args.found same (sym c.holds.ensures ∙ c.if-not-holds.false) c.in-None.is

pub returns-in-Some : goal.returns-in-Some
returns-in-Some c before same = it_is_higher before c.args.function c.args.address c.args.found same c.in-Some.first c.higher_of.result (sym c.holds.ensures ∙ c.if-not-holds.false) c.in-Some.is c.higher_of.ensures
