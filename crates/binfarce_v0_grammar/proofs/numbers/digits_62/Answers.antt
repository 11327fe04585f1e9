use Rattle.std.proofs.Common.{◌∙◌, sym, arith}
use Rattle.binfarce_v0_grammar.proofs.NumberLemmas.{number_from_over}
use Rattle.binfarce_v0_grammar.proofs.numbers.digits_62.Goals as goal

pub returns-in_err-value : goal.returns-in_err-value
returns-in_err-value c =
    let large = number_from_over c.args.part.now c.loop-at.at c.loop-at.value c.loop-at-test.true c.if-c-eq95.false (omega (arith, c.in_err-value.ensures, c.in_ok-digit.ensures.1)) in
    c.from_residual-in_err-value.ensures ∙ sym (c.loop-at.invariant ∙ large)
