use Rattle.std.proofs.Common.{length}
use Rattle.binfarce_v0_grammar.specs.Punycode.{punycode_decoded}
use Rattle.binfarce_v0_grammar.proofs.PunycodeLemmas.{Decodes}
use Rattle.binfarce_v0_grammar.proofs.punycode.decode.Given as goal

abbrev pub invariant-loop-rest : goal.invariant-loop-rest
invariant-loop-rest l = Decodes l.characters l.count l.n l.i l.bias l.rest (punycode_decoded l.fn.ascii l.fn.code)

abbrev pub decreases-loop-rest : goal.decreases-loop-rest
decreases-loop-rest l = length l.rest
