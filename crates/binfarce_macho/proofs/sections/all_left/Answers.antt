use Rattle.std.proofs.Common.{sym, ap, ◌∙◌, ℕ, List, arith}
use Rattle.binfarce_macho.specs.declared.sections.Segment.{Segment}
use Rattle.binfarce_macho.specs.machine.RawMacho.{commands_left}
use Rattle.binfarce_macho.proofs.Walks.{sections_left, walk_is}
use Rattle.binfarce_macho.proofs.SectionsLeft.{goes_on, end_is}
use Rattle.binfarce_macho.proofs.sections.all_left.Goals as goal

-- no segment is begun, so that all are left that the commands have
pub returns-clause-all : goal.returns-clause-all
returns-clause-all c =
    let none : Segment = record { body = 0; count = 0; next = 0 } in
    let bytes = c.commands.result.bytes.now in
    let left = commands_left c.commands.result in
    goes_on bytes none left (end_is bytes none (omega arith) (omega arith))
    ∙ ap (λ (f : List ℕ). sections_left f left) c.commands.ensures.bytes
    ∙ ap (sections_left c.args.file.now) c.commands.ensures.left
    ∙ sym (walk_is c.args.file.now)
