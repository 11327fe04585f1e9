use Rattle.std.proofs.Common.{◌+◌, refl, arith}
use Rattle.binfarce_macho.specs.declared.sections.Segment.{Segment}
use Rattle.binfarce_macho.proofs.Walks.{segment_truncated}
use Rattle.binfarce_macho.proofs.SectionsLeft.{all_left}
use Rattle.binfarce_macho.proofs.sections.first_of_segment.Goals as goal

pub returns-in-Err : goal.returns-in-Err
returns-in-Err c = segment_truncated c.args.bytes.now (c.args.command.offset + 8) (omega (arith, c.in-Err.ensures))

pub returns-in-Ok : goal.returns-in-Ok
returns-in-Ok c =
    let s : Segment = record { body = c.args.command.offset + 8; count = c.in-Ok.count; next = 0 } in
    (refl, refl, all_left c.args.bytes.now s refl (omega (arith, c.in-Ok.ensures.0)) c.in-Ok.ensures.1)
