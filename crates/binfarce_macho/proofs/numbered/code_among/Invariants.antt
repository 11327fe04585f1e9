use Rattle.std.proofs.Common.{◌≡◌, drop, map}
use Rattle.binfarce_macho.specs.MachoSelection.{code_among, numbered_view}
use Rattle.binfarce_macho.proofs.numbered.code_among.Given as goal

-- the code section is among those that are left
abbrev pub invariant-loop-index : goal.invariant-loop-index
invariant-loop-index l = code_among l.index (map numbered_view (drop l.index l.sections)) ≡ code_among 0 (map numbered_view l.sections)
