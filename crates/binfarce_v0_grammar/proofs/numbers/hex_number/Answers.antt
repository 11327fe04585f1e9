use Rattle.std.proofs.Common.{arith}
use Rattle.binfarce_v0_grammar.proofs.NumberLemmas.{hex_fits}
use Rattle.binfarce_v0_grammar.proofs.numbers.hex_number.Goals as goal

pub overflow_mul-value : goal.overflow_mul-value
overflow_mul-value c =
    let fits = hex_fits c.loop-c.c-index c.loop-c.value 0 (omega arith) c.loop-c.invariant.1 (omega arith) in omega arith

pub overflow_add-value : goal.overflow_add-value
overflow_add-value c =
    let fits = hex_fits c.loop-c.c-index c.loop-c.value c.hex_digit.result (omega arith) c.loop-c.invariant.1 c.hex_digit.ensures.small in omega arith
