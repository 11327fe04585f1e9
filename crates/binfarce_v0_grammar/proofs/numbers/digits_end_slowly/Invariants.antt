use Rattle.std.proofs.Common.{◌≡◌, ◌+◌, ◌-◌, ◌≤◌, length, drop}
use Rattle.std.specs.List.{prefix_len}
use Rattle.std.specs.Char.{is_ascii_alphanumeric}
use Rattle.binfarce_v0_grammar.proofs.numbers.digits_end_slowly.Given as goal

abbrev pub invariant-loop-end : goal.invariant-loop-end
invariant-loop-end l = record {
  from : l.start ≤ l.end;
  within : l.end ≤ length l.part;
  run : l.start + prefix_len is_ascii_alphanumeric (drop l.start l.part) ≡ l.end + prefix_len is_ascii_alphanumeric (drop l.end l.part);
}

abbrev pub decreases-loop-end : goal.decreases-loop-end
decreases-loop-end l = length l.part - l.end
