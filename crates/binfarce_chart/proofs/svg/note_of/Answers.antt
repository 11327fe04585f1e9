use Rattle.std.proofs.Common.{◌∙◌, sym, arith}
use Rattle.std.proofs.lemmas.Bool.Decides.{nat_tests}
use Rattle.binfarce_chart.proofs.Notes.{any_viewed, has_none, has_note}
use Rattle.binfarce_chart.proofs.svg.note_of.Goals as goal

pub returns-then-has_unknown : goal.returns-then-has_unknown
returns-then-has_unknown c = has_note c.args.bars.now (grind (arith, nat_tests, c.if-is_empty.ensures)) (any_viewed c.args.bars.now ∙ sym c.has_unknown.ensures ∙ c.if-has_unknown.true)

pub returns-else-has_unknown : goal.returns-else-has_unknown
returns-else-has_unknown c = has_none c.args.bars.now (grind (arith, nat_tests, c.if-is_empty.ensures)) (any_viewed c.args.bars.now ∙ sym c.has_unknown.ensures ∙ c.if-has_unknown.false)
