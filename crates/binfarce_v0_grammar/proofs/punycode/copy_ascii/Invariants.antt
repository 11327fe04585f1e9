use Rattle.std.proofs.Common.{◌≡◌, take}
use Rattle.binfarce_v0_grammar.proofs.punycode.copy_ascii.Given as goal

abbrev pub invariant-loop-at : goal.invariant-loop-at
invariant-loop-at l = take l.at l.characters ≡ take l.at l.ascii
