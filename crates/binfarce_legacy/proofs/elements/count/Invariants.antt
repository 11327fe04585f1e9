use Rattle.std.proofs.Common.{◌≡◌, ◌+◌, ◌-◌, ◌^◌, ◌≤◌, length, take, drop, min}
use Rattle.std.specs.List.{prefix_len}
use Rattle.std.specs.Char.{is_ascii_digit}
use Rattle.std.specs.Str.Parse.{digits_value}
use Rattle.binfarce_legacy.proofs.elements.count.Given as goal

abbrev pub invariant-loop-digits : goal.invariant-loop-digits
invariant-loop-digits l = record {
  within : l.digits ≤ length l.text;
  run : prefix_len is_ascii_digit l.text ≡ l.digits + prefix_len is_ascii_digit (drop l.digits l.text);
  value : l.number ≡ min (digits_value 10 (take l.digits l.text)) (2 ^ 64 - 1);
}

abbrev pub decreases-loop-digits : goal.decreases-loop-digits
decreases-loop-digits l = length l.text - l.digits
