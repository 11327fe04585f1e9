use Rattle.std.proofs.Common.{◌≡◌, ◌<◌, ◌^◌, drop}
use Rattle.binfarce_v0_grammar.specs.machine.Numbers.{length_from}
use Rattle.binfarce_v0_grammar.proofs.numbers.digits_10.Given as goal

abbrev pub invariant-loop-at : goal.invariant-loop-at
invariant-loop-at l = (length_from (drop l.start l.part) 0 l.start ≡ length_from (drop l.at l.part) l.value l.at) × (l.after ≡ l.at) × (l.value < 2 ^ 64)
