use Rattle.std.proofs.Common.{◌≡◌, ◌+◌, ◌<◌, ◌≤◌, ◌^◌, drop, length, [], ◌∷◌}
use Rattle.binfarce_v0_state.proofs.HexDigits.{hex_onto}
use Rattle.binfarce_v0_state.proofs.disambiguators.put_disambiguator.Given as goal

abbrev pub invariant-loop-rest : goal.invariant-loop-rest
invariant-loop-rest l = record {
  some : 0 < l.at;
  within : l.at ≤ 16;
  small : l.rest < 16 ^ l.at;
  whole : length l.shown ≡ 18;
  left : hex_onto l.at l.rest (drop (l.at + 1) l.shown) ≡ hex_onto 16 l.n (93 ∷ []);
}

abbrev pub decreases-loop-rest : goal.decreases-loop-rest
decreases-loop-rest l = l.at
