use Rattle.std.proofs.Common.{◌≡◌, map, take}
use Rattle.binfarce_macho.specs.MachoSections.{numbered_at}
use Rattle.binfarce_macho.specs.MachoSelection.{numbered_view}
use Rattle.binfarce_macho.proofs.numbered.sections_at.Given as goal

-- the sections so far
abbrev pub invariant-loop-start : goal.invariant-loop-start
invariant-loop-start l = map numbered_view l.sections.items ≡ map (numbered_at l.file) (take l.start-index l.starts)
