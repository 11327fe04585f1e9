use Rattle.std.proofs.Common.{◌-◌, length, take}
use Rattle.binfarce_needs.specs.NeededVersions.{files_from, needed_versions}
use Rattle.binfarce_needs.specs.machine.Views.{Found}
use Rattle.binfarce_needs.proofs.versions.needed_versions.Given as goal

-- what isn't among the versions so far is among those that are left
abbrev pub invariant-loop-passed : goal.invariant-loop-passed
invariant-loop-passed l = Found l.offsets (take l.room (files_from l.byte_order l.section (length l.section - l._passed) l.start)) (needed_versions l.byte_order l.section)
