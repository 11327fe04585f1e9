use Rattle.std.proofs.Common.{◌≡◌, drop}
use Rattle.binfarce_v0_grammar.specs.machine.Numbers.{number_from}
use Rattle.binfarce_v0_grammar.proofs.numbers.digits_62.Given as goal

abbrev pub invariant-loop-at : goal.invariant-loop-at
invariant-loop-at l = number_from (drop l.start l.part) 0 l.start ≡ number_from (drop l.at l.part) l.value l.at
