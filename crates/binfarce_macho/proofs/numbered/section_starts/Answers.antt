use Rattle.std.proofs.Common.{◌≡◌, ℕ, ◌+◌, ◌≤◌, length, List, Some, inl, inr, ap, subst, ◌∙◌, arith}
use Rattle.std.proofs.lemmas.List.Elements.{All-nil}
use Rattle.binfarce_bytes.specs.Refusal.{refusal_of}
use Rattle.binfarce_bytes.specs.Walk.{ended, ahead_of}
use Rattle.binfarce_macho.specs.machine.RawMacho.{commands_left, command_view, damage_refusal}
use Rattle.binfarce_macho.proofs.CommandWalks.{takes_ok, takes_err, inside}
use Rattle.binfarce_macho.proofs.AllWalks.{none_so_far, passed, added, segment_refused, has_section, command_refused, all_so_far, returns_refusal, returns_error}
use Rattle.binfarce_macho.proofs.numbered.section_starts.Goals as goal
use Rattle.binfarce_macho.proofs.numbered.section_starts.Goals.{In_ok-command}

-- what is left before this item begins with its command
left_is : (c : In_ok-command) → commands_left c.loop-item.item-iterator ≡ ahead_of (command_view c.in_ok-command.command) (commands_left c.next.new.self)
left_is c = takes_ok (commands_left c.loop-item.item-iterator) (commands_left c.next.new.self) c.in-Some.item c.in_ok-command.command c.in_ok-command.was c.in-Some.ensures.steps.1

-- its head is in the file
head_inside : (c : In_ok-command) → c.in_ok-command.command.offset + 8 ≤ length c.args.file.now
head_inside c =
    let it = c.loop-item.item-iterator in
    subst (λ (file : List ℕ). c.in_ok-command.command.offset + 8 ≤ length file) c.loop-item.invariant.0
    (inside it.bytes.now it.left it.offset (command_view c.in_ok-command.command) (commands_left c.next.new.self) (left_is c))

pub loop-item-init : goal.loop-item-init
loop-item-init c =
    let same = c.into_iter-item-iterator.ensures.into_iter_gives in (
      ap (λ it. it.bytes.now) same ∙ c.commands-item-items.ensures.bytes,
      none_so_far c.args.file.now (commands_left c.into_iter-item-iterator.result) c.new-starts.result.items (ap commands_left same ∙ c.commands-item-items.ensures.left) c.new-starts.ensures.items,
      rw c.new-starts.ensures.items (All-nil (λ start. start + 52 ≤ length c.args.file.now)),
    )

pub returns-in_err-command : goal.returns-in_err-command
returns-in_err-command c =
    let it = c.loop-item.item-iterator in
    let damage = c.in_err-command.field-0.0 in
    let bad : commands_left it ≡ ended (Some (damage_refusal damage)) = takes_err (commands_left it) (commands_left c.next.new.self) c.in-Some.item damage c.in_err-command.was c.in-Some.ensures.steps.1 in
    returns_refusal c.args.file.now c.from_residual.result _ (damage_refusal damage) c.from_residual.ensures.1
    (command_refused c.args.file.now (commands_left it) c.loop-item.starts.items (damage_refusal damage) bad c.loop-item.invariant.1)

pub overflow_add-command : goal.overflow_add-command
overflow_add-command c =
    let within : c.in_ok-command.command.offset + 8 ≤ length c.args.file.now = head_inside (goal.at.overflow_add-command c).In_ok-command in
    omega arith

pub push_sections-requires-clause-inside : goal.push_sections-requires-clause-inside
push_sections-requires-clause-inside c = head_inside (goal.at.push_sections-requires-clause-inside c).In_ok-command

pub loop-item-preserved-in-Continue-branch-2 : goal.loop-item-preserved-in-Continue-branch-2
loop-item-preserved-in-Continue-branch-2 c = (
  c.in-Some.ensures.steps.0 ∙ c.loop-item.invariant.0,
  added c.args.file.now (command_view c.in_ok-command.command) (commands_left c.loop-item.item-iterator) (commands_left c.next.new.self) c.loop-item.starts.items
      (left_is (goal.at.loop-item-preserved-in-Continue-branch-2 c).In_ok-command) c.loop-item.invariant.1
      c.push_sections.new.starts.items c.if-command-eq-LC_SEGMENT_64.true c.in_ok-push_sections.ensures.0 c.in_ok-push_sections.ensures.1,
  c.in_ok-push_sections.ensures.2,
)

pub returns-in_err-push_sections : goal.returns-in_err-push_sections
returns-in_err-push_sections c =
    let file = c.args.file.now in
    let e = c.in_err-push_sections.field-0.0 in
    let command = command_view c.in_ok-command.command in
    let left = commands_left c.loop-item.item-iterator in
    let after = commands_left c.next.new.self in
    let starts = c.loop-item.starts.items in
    let is : left ≡ ahead_of command after = left_is (goal.at.returns-in_err-push_sections c).In_ok-command in
    returns_error file c.from_residual-in_err-push_sections.result _ e c.from_residual-in_err-push_sections.ensures.1 (elim c.in_err-push_sections.ensures [
      | inl refused ↦ inl (segment_refused file command left after starts is c.loop-item.invariant.1 (refusal_of e) c.if-command-eq-LC_SEGMENT_64.true refused)
      | inr memory ↦ inr (memory.0, has_section file command left after starts is c.loop-item.invariant.1 c.if-command-eq-LC_SEGMENT_64.true memory.1)
    ])

pub loop-item-preserved : goal.loop-item-preserved
loop-item-preserved c = (
  c.in-Some.ensures.steps.0 ∙ c.loop-item.invariant.0,
  passed c.args.file.now (command_view c.in_ok-command.command) (commands_left c.loop-item.item-iterator) (commands_left c.next.new.self) c.loop-item.starts.items
      (left_is (goal.at.loop-item-preserved c).In_ok-command) c.loop-item.invariant.1 c.if-command-eq-LC_SEGMENT_64.false,
  c.loop-item.invariant.2,
)

pub returns : goal.returns
returns c = (all_so_far c.args.file.now (commands_left c.loop-item.item-iterator) c.loop-item.starts.items c.in-None.ensures.steps.1.0 c.loop-item.invariant.1, c.loop-item.invariant.2)
