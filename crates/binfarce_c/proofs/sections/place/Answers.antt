use Rattle.std.proofs.Common.{arith}
use Rattle.binfarce_c.proofs.Filled.{with_room, without_room}
use Rattle.binfarce_c.proofs.sections.place.Goals as goal
use Rattle.binfarce_c.proofs.sections.place.Goals.{then-count-room, else-count-room}

pub returns : goal.returns
returns c was sections filled =
    elim c.if-count-room.branch [
      | then-count-room w ↦ with_room was sections c.args.out.now c.if-count-room.out c.args.section c.args.count c.saturating_add.result filled c.saturating_add.ensures (omega arith) (omega arith) w.out-is
      | else-count-room w ↦ without_room was sections c.args.out.now c.if-count-room.out c.args.section c.args.count c.saturating_add.result filled c.saturating_add.ensures (omega arith) w.out-is
    ]
