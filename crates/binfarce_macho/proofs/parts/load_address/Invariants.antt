use Rattle.std.proofs.Common.{◌≡◌}
use Rattle.binfarce_bytes.specs.Walk.{first}
use Rattle.binfarce_macho.specs.Macho.{commands}
use Rattle.binfarce_macho.specs.MachoParts.{is_text_segment}
use Rattle.binfarce_macho.specs.machine.RawMacho.{commands_left}
use Rattle.binfarce_macho.proofs.parts.load_address.Given as goal

-- the search goes on among the commands that are left
abbrev pub invariant-loop-item : goal.invariant-loop-item
invariant-loop-item l = first (is_text_segment l.file) (commands_left l.item-iterator) ≡ first (is_text_segment l.file) (commands l.file)
