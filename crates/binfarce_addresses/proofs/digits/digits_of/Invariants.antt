use Rattle.std.proofs.Common.{◌≡◌, [], ◌-◌, drop, length}
use Rattle.binfarce_rows.proofs.Heads.{hex_onto}
use Rattle.binfarce_addresses.proofs.digits.digits_of.Given as goal

-- the digits that are left, before those that are put, are the number's
abbrev pub invariant-loop-k : goal.invariant-loop-k
invariant-loop-k l = record {
  whole : length l.shown ≡ 16;
  left : hex_onto (16 - l.k) l.rest (drop (16 - l.k) l.shown) ≡ hex_onto 16 l.number [];
}
