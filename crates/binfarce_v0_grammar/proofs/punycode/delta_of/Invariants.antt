use Rattle.binfarce_v0_grammar.proofs.PunycodeLemmas.{Reads}
use Rattle.binfarce_v0_grammar.proofs.punycode.delta_of.Given as goal

abbrev pub invariant-loop-at : goal.invariant-loop-at
invariant-loop-at l = Reads l.bias l.code l.at l.delta l.weight l.k
