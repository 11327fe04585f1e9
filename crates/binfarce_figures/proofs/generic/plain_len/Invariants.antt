use Rattle.std.proofs.Common.{◌≡◌, ◌≤◌, ◌-◌, length, take, false}
use Rattle.std.specs.List.{list_any}
use Rattle.binfarce_figures.specs.machine.Runs.{is_mark}
use Rattle.binfarce_figures.proofs.generic.plain_len.Given as goal

-- no mark so far
abbrev pub invariant-loop-len : goal.invariant-loop-len
invariant-loop-len l = record {
  within : l.len ≤ length l.bytes;
  plain : list_any (is_mark l.depth) (take l.len l.bytes) ≡ false;
}

abbrev pub decreases-loop-len : goal.decreases-loop-len
decreases-loop-len l = length l.bytes - l.len
