use Rattle.std.proofs.Common.{◌≡◌, ◌≤◌, ◌-◌, ◌++◌, length, drop, take, if◌then◌else◌}
use Rattle.std.specs.Str.{IsCharBoundary}
use Rattle.binfarce_figures.specs.Modules.{goes_on, modules}
use Rattle.binfarce_figures.proofs.module.modules_len.Given as goal

-- the modules end where they may end last, unless they go on
abbrev pub invariant-loop-at : goal.invariant-loop-at
invariant-loop-at l = record {
  within : l.at ≤ length l.path;
  before : l.end ≤ l.at;
  boundary : IsCharBoundary l.path l.end;
  due : modules l.path ≡ (if goes_on (drop l.at l.path) then take l.at l.path ++ modules (drop l.at l.path) else take l.end l.path);
}

abbrev pub decreases-loop-at : goal.decreases-loop-at
decreases-loop-at l = length l.bytes - l.at
