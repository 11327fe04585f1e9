use Rattle.std.proofs.Common.{sym, ◌∙◌, arith}
use Rattle.binfarce_legacy.proofs.LastElement.{no_mark_more, mark_here}
use Rattle.binfarce_legacy.proofs.runs.has_mark.Goals as goal

pub returns-then-has_mark_among : goal.returns-then-has_mark_among
returns-then-has_mark_among c =
    sym (c.loop-at.invariant.left ∙ mark_here c.args.name.now c.loop-at.at _ (sym c.has_mark_among.ensures ∙ c.if-has_mark_among.true))

pub loop-at-preserved : goal.loop-at-preserved
loop-at-preserved c = record {
  within = omega arith;
  left = c.loop-at.invariant.left ∙ no_mark_more c.args.name.now c.loop-at.at 16 _ (omega arith) (sym c.has_mark_among.ensures ∙ c.if-has_mark_among.false);
}
