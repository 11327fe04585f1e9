use Rattle.std.proofs.Common.{◌≡◌, ◌≤◌, ◌-◌, length, drop}
use Rattle.binfarce_figures.specs.Modules.{below_crate}
use Rattle.binfarce_figures.proofs.module.below_crate.Given as goal

-- in what is left a path of the crate comes first where it does in all
abbrev pub invariant-loop-at : goal.invariant-loop-at
invariant-loop-at l = record {
  within : l.at ≤ length l.text;
  due : below_crate l.crate_name l.before (drop l.at l.text) ≡ below_crate l.crate_name 32 l.text;
}

abbrev pub decreases-loop-at : goal.decreases-loop-at
decreases-loop-at l = length l.bytes - l.at
