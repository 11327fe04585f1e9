use Rattle.std.proofs.Common.{◌∙◌, sym, arith}
use Rattle.binfarce_figures.proofs.Runs.{more_plain}
use Rattle.binfarce_figures.proofs.generic.past_strides.Goals as goal

pub loop-len-preserved : goal.loop-len-preserved
loop-len-preserved c = record {
  within = omega arith;
  plain = more_plain c.args.depth c.loop-len.len 8 _ c.args.bytes.now (omega arith) c.loop-len.invariant.plain (sym c.has_mark.ensures ∙ c.if-not-has_mark.true);
}
