use Rattle.std.proofs.Common.{◌≡◌, ℕ, ◌+◌, ◌-◌, ap, sym, ◌∙◌, refl, arith}
use Rattle.binfarce_bytes.specs.Walk.{ahead_of}
use Rattle.binfarce_macho.specs.Macho.{Command, command_at, commands_from}
use Rattle.binfarce_macho.specs.machine.RawMacho.{command_view}
use Rattle.binfarce_macho.proofs.CommandWalks.{none_left, truncated, bad, given}
use Rattle.binfarce_macho.proofs.commands.MachoCommandsIteratorIterator.next.Goals as goal

pub returns-then-self-eq0-clause-steps : goal.returns-then-self-eq0-clause-steps
returns-then-self-eq0-clause-steps c =
    let none = none_left c.args.self.now.bytes.now c.args.self.now.left c.args.self.now.offset c.if-self-eq0.true in
    (refl, (none, none))

pub returns-in-Err-clause-steps : goal.returns-in-Err-clause-steps
returns-in-Err-clause-steps c =
    let none = truncated c.args.self.now.bytes.now c.args.self.now.left c.args.self.now.offset c.in-Err.ensures in
    (refl, (none, none))

pub returns-then-command-lt-COMMAND_HEAD-clause-steps : goal.returns-then-command-lt-COMMAND_HEAD-clause-steps
returns-then-command-lt-COMMAND_HEAD-clause-steps c =
    let file = c.args.self.now.bytes.now in
    let offset = c.args.self.now.offset in
    let size : c.in-Ok.command.size ≡ (command_at file offset).size = ap (λ (k : Command). k.size) c.in-Ok.ensures.1 in
    let little = c.if-command-lt-COMMAND_HEAD.true in
    (refl, (bad file c.args.self.now.left offset (omega arith) c.in-Ok.ensures.0 (omega arith), none_left file 0 offset refl))

pub returns-else-command-lt-COMMAND_HEAD-clause-steps : goal.returns-else-command-lt-COMMAND_HEAD-clause-steps
returns-else-command-lt-COMMAND_HEAD-clause-steps c =
    let file = c.args.self.now.bytes.now in
    let offset = c.args.self.now.offset in
    let left = c.args.self.now.left in
    let is = c.in-Ok.ensures.1 in
    let size : c.in-Ok.command.size ≡ (command_at file offset).size = ap (λ (k : Command). k.size) is in
    let enough = c.if-command-lt-COMMAND_HEAD.false in (
      refl,
      given file left offset (omega arith) c.in-Ok.ensures.0 (omega arith)
          ∙ ap (λ (k : Command). ahead_of k (commands_from file (left - 1) (offset + k.size))) (sym is)
          ∙ ap (λ (n : ℕ). ahead_of (command_view c.in-Ok.command) (commands_from file (left - 1) n)) (sym c.to_index-self.ensures),
    )
