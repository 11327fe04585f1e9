use Rattle.std.proofs.Common.{◌≡◌, ◌+◌, ◌-◌, ◌≤◌, length, take, drop, min}
use Rattle.std.specs.List.{prefix_len}
use Rattle.std.specs.Str.Parse.{digits_value}
use Rattle.binfarce_text.specs.Letters.{is_hex_digit}
use Rattle.binfarce_legacy.proofs.escapes.hex_count.Given as goal

abbrev pub invariant-loop-digits : goal.invariant-loop-digits
invariant-loop-digits l = record {
  within : l.digits ≤ length l.text;
  run : prefix_len is_hex_digit l.text ≡ l.digits + prefix_len is_hex_digit (drop l.digits l.text);
  value : l.number ≡ min (digits_value 16 (take l.digits l.text)) 0x110000;
}

abbrev pub decreases-loop-digits : goal.decreases-loop-digits
decreases-loop-digits l = length l.text - l.digits
