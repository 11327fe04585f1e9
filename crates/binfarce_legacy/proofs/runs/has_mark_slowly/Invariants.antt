use Rattle.std.proofs.Common.{◌≡◌, take}
use Rattle.std.specs.List.{list_any}
use Rattle.binfarce_legacy.specs.machine.Reading.{is_mark}
use Rattle.binfarce_legacy.proofs.runs.has_mark_slowly.Given as goal

abbrev pub invariant-loop-b : goal.invariant-loop-b
invariant-loop-b l = l.found ≡ list_any is_mark (take l.b-index l.bytes)
