use Rattle.std.proofs.Common.{◌≡◌, ◌≤◌, ◌-◌, length, drop}
use Rattle.binfarce_figures.specs.Modules.{begins_module}
use Rattle.binfarce_figures.proofs.module.begins_module.Given as goal

-- what is left says the same as all
abbrev pub invariant-loop-at : goal.invariant-loop-at
invariant-loop-at l = record {
  within : l.at ≤ length l.text;
  due : begins_module (drop l.at l.text) ≡ begins_module l.text;
}

abbrev pub decreases-loop-at : goal.decreases-loop-at
decreases-loop-at l = length l.text - l.at
