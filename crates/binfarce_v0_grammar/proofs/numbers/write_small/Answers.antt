use Rattle.std.proofs.Common.{arith}
use Rattle.binfarce_v0_grammar.proofs.SkipLemmas.{few_digits, eleven_digits}
use Rattle.binfarce_v0_grammar.proofs.numbers.write_small.Goals as goal

pub returns-then-count-le10 : goal.returns-then-count-le10
returns-then-count-le10 c = λ _. few_digits c.args.part.now c.args.start (omega (arith, c.requires.run, c.if-count-le10.true))

pub returns-then-count-eq11 : goal.returns-then-count-eq11
returns-then-count-eq11 c = λ h. eleven_digits c.args.part.now c.args.start (omega (arith, c.requires.run, c.if-count-eq11.true)) (c.are_small.ensures h)
