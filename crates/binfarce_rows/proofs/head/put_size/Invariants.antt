use Rattle.std.proofs.Common.{◌≡◌, ◌+◌, ◌<◌, ◌≤◌, ◌^◌, drop, take, length, replicate}
use Rattle.std.specs.Fmt.{decimal}
use Rattle.binfarce_rows.proofs.Heads.{decimal_onto}
use Rattle.binfarce_rows.proofs.head.put_size.Given as goal

abbrev pub invariant-loop-rest : goal.invariant-loop-rest
invariant-loop-rest l = record {
  within : l.at ≤ 9;
  small : l.rest < 10 ^ (l.at + 1);
  whole : length l.digits ≡ 10;
  blanks : take l.at l.digits ≡ replicate l.at 32;
  left : decimal_onto (l.at + 1) l.rest (drop (l.at + 1) l.digits) ≡ decimal l.size;
}

abbrev pub decreases-loop-rest : goal.decreases-loop-rest
decreases-loop-rest l = l.at
