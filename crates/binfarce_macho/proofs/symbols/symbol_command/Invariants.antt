use Rattle.std.proofs.Common.{◌≡◌, nat_eq}
use Rattle.binfarce_bytes.specs.Walk.{first}
use Rattle.binfarce_macho.specs.Macho.{commands}
use Rattle.binfarce_macho.specs.machine.RawMacho.{commands_left}
use Rattle.binfarce_macho.proofs.symbols.symbol_command.Given as goal

-- the search goes on among the commands that are left
abbrev pub invariant-loop-item : goal.invariant-loop-item
invariant-loop-item l = first (λ command. nat_eq command.kind 2) (commands_left l.item-iterator) ≡ first (λ command. nat_eq command.kind 2) (commands l.file)
