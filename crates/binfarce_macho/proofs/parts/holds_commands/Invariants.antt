use Rattle.std.proofs.Common.{◌≡◌, ◌-◌}
use Rattle.binfarce_macho.specs.Macho.{header_of}
use Rattle.binfarce_macho.specs.MachoParts.{holds_from, holds_commands}
use Rattle.binfarce_macho.proofs.parts.holds_commands.Given as goal

-- the answer is that of the commands that are left
abbrev pub invariant-loop-k : goal.invariant-loop-k
invariant-loop-k l = holds_from l.file ((header_of l.file).ncmds - l._k) l.offset ≡ holds_commands l.file
