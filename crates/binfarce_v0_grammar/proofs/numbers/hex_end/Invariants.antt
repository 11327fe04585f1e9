use Rattle.std.proofs.Common.{◌≡◌, ◌+◌, drop}
use Rattle.std.specs.Option.{option_map}
use Rattle.binfarce_v0_grammar.specs.machine.Numbers.{hex_length}
use Rattle.binfarce_v0_grammar.proofs.numbers.hex_end.Given as goal

abbrev pub invariant-loop-at : goal.invariant-loop-at
invariant-loop-at l = option_map (λ n. l.start + n) (hex_length (drop l.start l.part)) ≡ option_map (λ n. l.at + n) (hex_length (drop l.at l.part))
