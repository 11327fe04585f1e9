use Rattle.std.proofs.Common.{arith}
use Rattle.binfarce_v0_grammar.proofs.Values.{is_none, is_value}
use Rattle.binfarce_v0_grammar.proofs.numbers.digit_62.Goals as goal

pub returns-then-value-gt61 : goal.returns-then-value-gt61
returns-then-value-gt61 c = is_none _ c.args.c (omega (arith, c.ranges.c.fits)) c.if-value-gt61.true

pub returns : goal.returns
returns c = is_value _ c.args.c (omega (arith, c.ranges.c.fits)) c.if-value-gt61.false
