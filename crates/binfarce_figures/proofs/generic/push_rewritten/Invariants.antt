use Rattle.std.proofs.Common.{◌≡◌, ◌++◌, ◌≤◌, ◌-◌, length, drop}
use Rattle.std.specs.Prelude.{encode_utf8_all}
use Rattle.std.specs.Str.{IsUtf8, chars}
use Rattle.std.specs.String.{string_bytes}
use Rattle.binfarce_figures.specs.Generic.{rewritten, shown_after}
use Rattle.binfarce_figures.proofs.generic.push_rewritten.Given as goal

-- with what is left, the text is that of all; no more brackets are open than bytes were read
abbrev pub invariant-loop-at : goal.invariant-loop-at
invariant-loop-at l = record {
  within : l.at ≤ length l.name;
  few : l.depth ≤ l.at;
  utf8 : IsUtf8 (drop l.at l.name);
  due : string_bytes l.text ++ encode_utf8_all (shown_after l.shape l.depth l.before (chars (drop l.at l.name))) ≡ string_bytes l.initial.text ++ rewritten l.shape l.name;
}

abbrev pub decreases-loop-at : goal.decreases-loop-at
decreases-loop-at l = length l.name - l.at
