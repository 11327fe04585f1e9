use Rattle.std.proofs.Common.{◌≡◌, ◌-◌, ◌≤◌, ◌++◌, length, drop}
use Rattle.std.specs.Str.{encode_utf8_all}
use Rattle.std.specs.String.{string_bytes}
use Rattle.binfarce_legacy.specs.Legacy.{name_chars}
use Rattle.binfarce_legacy.specs.machine.Reading.{chars_left, Grows}
use Rattle.binfarce_legacy.proofs.legacy.push_name.Given as goal

abbrev pub invariant-loop-at : goal.invariant-loop-at
invariant-loop-at l = record {
  within : l.at ≤ length l.name;
  written : string_bytes l.text ++ encode_utf8_all (chars_left (drop l.at l.name)) ≡ string_bytes l.fn.text ++ encode_utf8_all (name_chars l.name);
  grows : Grows (string_bytes l.fn.text) (string_bytes l.text);
}

abbrev pub decreases-loop-at : goal.decreases-loop-at
decreases-loop-at l = length l.name - l.at
