use Rattle.std.proofs.Common.{◌≡◌, ◌≤◌, drop, []}
use Rattle.binfarce_rows.proofs.Heads.{hex_onto}
use Rattle.binfarce_rows.proofs.head.put_address.Given as goal

abbrev pub invariant-loop-at : goal.invariant-loop-at
invariant-loop-at l = record {
  within : l.at ≤ 16;
  left : hex_onto l.at l.rest (drop l.at l.digits) ≡ hex_onto 16 l.address [];
}

abbrev pub decreases-loop-at : goal.decreases-loop-at
decreases-loop-at l = l.at
