use Rattle.std.proofs.Common.{◌≡◌, ◌+◌, ◌≤◌, length, ap, ◌∙◌, Some, None, arith}
use Rattle.binfarce_bytes.specs.Walk.{ended, ahead_of}
use Rattle.binfarce_macho.specs.machine.RawMacho.{commands_left, command_view, damage_refusal}
use Rattle.binfarce_macho.proofs.CommandWalks.{takes_ok, takes_err, inside}
use Rattle.binfarce_macho.proofs.Walks.{sections_left, segment_left, other_left, no_left}
use Rattle.binfarce_macho.proofs.SectionsLeft.{steps_segment}
use Rattle.binfarce_macho.proofs.sections.next_segment.Goals as goal

pub returns-in-Err-clause-steps : goal.returns-in-Err-clause-steps
returns-in-Err-clause-steps c =
    let file = c.args.commands.now.bytes.now in
    let it = c.loop-item.commands in
    let bad : commands_left it ≡ ended (Some (damage_refusal c.in-Err.damage)) = takes_err (commands_left it) (commands_left c.next.new.self) c.in-Some.item c.in-Err.damage c.in-Err.is c.in-Some.ensures.steps.1 in
    c.loop-item.invariant.2 ∙ ap (sections_left file) bad ∙ no_left file (Some (damage_refusal c.in-Err.damage))

pub first_of_segment-requires : goal.first_of_segment-requires
first_of_segment-requires c =
    let it = c.loop-item.commands in
    let left : commands_left it ≡ ahead_of (command_view c.in-Ok.command) (commands_left c.next.new.self) = takes_ok (commands_left it) (commands_left c.next.new.self) c.in-Some.item c.in-Ok.command c.in-Ok.is c.in-Some.ensures.steps.1 in
    let head : c.in-Ok.command.offset + 8 ≤ length it.bytes.now = inside it.bytes.now it.left it.offset (command_view c.in-Ok.command) (commands_left c.next.new.self) left in
    omega (arith, head, ap length c.in-Some.ensures.steps.0)

pub returns-then-command-eq-LC_SEGMENT_64-clause-steps : goal.returns-then-command-eq-LC_SEGMENT_64-clause-steps
returns-then-command-eq-LC_SEGMENT_64-clause-steps c =
    let file = c.args.commands.now.bytes.now in
    let it = c.loop-item.commands in
    let left : commands_left it ≡ ahead_of (command_view c.in-Ok.command) (commands_left c.next.new.self) = takes_ok (commands_left it) (commands_left c.next.new.self) c.in-Some.item c.in-Ok.command c.in-Ok.is c.in-Some.ensures.steps.1 in
    let same : c.next.new.self.bytes.now ≡ file = c.in-Some.ensures.steps.0 ∙ c.loop-item.invariant.0 in
    let head : c.in-Ok.command.offset + 8 ≤ length it.bytes.now = inside it.bytes.now it.left it.offset (command_view c.in-Ok.command) (commands_left c.next.new.self) left in
    steps_segment file c.next.new.self.bytes.now (commands_left c.args.commands.now) (command_view c.in-Ok.command) (commands_left c.next.new.self) c.first_of_segment.result same (omega (arith, head, ap length c.loop-item.invariant.0))
    (c.loop-item.invariant.2 ∙ ap (sections_left file) left ∙ segment_left file (command_view c.in-Ok.command) (commands_left c.next.new.self) c.if-command-eq-LC_SEGMENT_64.true)
    c.first_of_segment.ensures

pub loop-item-preserved : goal.loop-item-preserved
loop-item-preserved c =
    let file = c.args.commands.now.bytes.now in
    let it = c.loop-item.commands in
    let left : commands_left it ≡ ahead_of (command_view c.in-Ok.command) (commands_left c.next.new.self) = takes_ok (commands_left it) (commands_left c.next.new.self) c.in-Some.item c.in-Ok.command c.in-Ok.is c.in-Some.ensures.steps.1 in (
      c.in-Some.ensures.steps.0 ∙ c.loop-item.invariant.0,
      omega (arith, c.loop-item.invariant.1, (c.in-Some.ensures.goes.on tt).2),
      c.loop-item.invariant.2 ∙ ap (sections_left file) left ∙ other_left file (command_view c.in-Ok.command) (commands_left c.next.new.self) c.if-command-eq-LC_SEGMENT_64.false,
    )

pub returns-clause-steps : goal.returns-clause-steps
returns-clause-steps c =
    let file = c.args.commands.now.bytes.now in
    (c.loop-item.invariant.2 ∙ ap (sections_left file) c.in_default.ensures.steps.1.0 ∙ no_left file None, c.in_default.ensures.steps.1.1)
