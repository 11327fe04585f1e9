use Rattle.std.proofs.Common.{◌+◌, ◌^◌, ◌≤◌}
use Rattle.binfarce_v0_grammar.specs.Punycode.{adapted_bias}
use Rattle.binfarce_v0_grammar.proofs.PunycodeLemmas.{Scales}
use Rattle.binfarce_v0_grammar.proofs.punycode.adapted_bias.Given as goal

abbrev pub invariant-loop-delta : goal.invariant-loop-delta
invariant-loop-delta l = Scales l.delta l.k (adapted_bias l.fn.delta l.fn.characters l.fn.first) × (l.k + l.delta ≤ 2 ^ 32)

abbrev pub decreases-loop-delta : goal.decreases-loop-delta
decreases-loop-delta l = l.delta
