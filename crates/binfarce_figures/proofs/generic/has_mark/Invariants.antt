use Rattle.std.proofs.Common.{◌≡◌, take}
use Rattle.std.specs.List.{list_any}
use Rattle.binfarce_figures.specs.machine.Runs.{is_mark}
use Rattle.binfarce_figures.proofs.generic.has_mark.Given as goal

abbrev pub invariant-loop-b : goal.invariant-loop-b
invariant-loop-b l = l.found ≡ list_any (is_mark l.depth) (take l.b-index l.bytes)
