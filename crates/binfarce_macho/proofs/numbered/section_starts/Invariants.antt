use Rattle.std.proofs.Common.{◌≡◌, ◌+◌, ◌≤◌, length, All}
use Rattle.binfarce_macho.specs.machine.RawMacho.{commands_left}
use Rattle.binfarce_macho.proofs.AllWalks.{SoFar}
use Rattle.binfarce_macho.proofs.numbered.section_starts.Given as goal

-- the sections of the commands so far
abbrev pub invariant-loop-item : goal.invariant-loop-item
invariant-loop-item l = (l.item-iterator.bytes.now ≡ l.file) × SoFar l.file (commands_left l.item-iterator) l.starts.items × All (λ start. start + 52 ≤ length l.file) l.starts.items
