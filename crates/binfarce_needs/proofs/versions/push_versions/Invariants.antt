use Rattle.std.proofs.Common.{◌-◌, ◌++◌, List, take}
use Rattle.binfarce_needs.specs.NeededVersions.{Version, versions_from}
use Rattle.binfarce_needs.specs.machine.Views.{Found}
use Rattle.binfarce_needs.proofs.versions.push_versions.Given as goal

-- what isn't among the versions so far is among those of the file that are left, or the others
abbrev pub invariant-loop-passed : goal.invariant-loop-passed
invariant-loop-passed l = (others all : List Version) → Found l.fn.offsets (take l.room (versions_from l.byte_order l.section l.file.name l.file.count l.start ++ others)) all
    → Found l.offsets (take l.left (versions_from l.byte_order l.section l.file.name (l.file.count - l._passed) l.at ++ others)) all
