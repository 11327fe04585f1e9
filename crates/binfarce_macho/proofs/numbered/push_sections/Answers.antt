use Rattle.std.proofs.Common.{inl, true, false, length, sym, ◌∙◌, arith}
use Rattle.binfarce_macho.proofs.AllWalks.{held_whole, held_room, filled, with_room}
use Rattle.binfarce_macho.proofs.numbered.push_sections.Goals as goal

pub returns-then-not-none_truncated : goal.returns-then-not-none_truncated
returns-then-not-none_truncated c = inl (held_whole c.args.file.now c.args.body false (sym c.none_truncated.ensures ∙ c.if-not-none_truncated.true))

pub returns : goal.returns
returns c =
    let file = c.args.file.now in
    let old = c.args.starts.now.items in
    let new = c.push_starts.new.starts.items in
    let room = held_room file c.args.body (sym c.none_truncated.ensures ∙ c.if-not-none_truncated.false) in (
      held_whole file c.args.body true (sym c.none_truncated.ensures ∙ c.if-not-none_truncated.false),
      filled file c.args.body c.in_ok-count.count c.min.result old new (omega (arith, c.requires.few)) c.in_ok-count.ensures.1
          (omega (arith, c.min.ensures, c.len.ensures, c.args.starts.now.ok.0)) c.in_ok-push_starts.ensures.pushed,
      with_room (length file) c.args.body c.min.result old new (omega (arith, room, c.min.ensures, c.in_ok-count.ensures.1)) c.requires.held c.in_ok-push_starts.ensures.pushed,
    )
