use Rattle.std.proofs.Common.{◌++◌, rules}
use Rattle.std.specs.String.{string_bytes}
use Rattle.binfarce_v0_state.specs.machine.Kept.{IsKept}
use Rattle.binfarce_v0_state.proofs.KeptLemmas.{is_kept}
use Rattle.binfarce_v0_state.proofs.state.Printer.fragment_at.Goals as goal

pub returns-then-eq : goal.returns-then-eq
returns-then-eq c =
    let p = c.self.inside in
    let text = string_bytes p.complete ++ string_bytes p.text in
    let trimmed = string_bytes p.trimmed ++ string_bytes p.text in
    let f = c.in_ok-fragment.fragment.now in
    let room = rw (← c.self.view_is) at c.requires in
    let kept : IsKept p.part.now p.full text trimmed f = search rules in
    let counted = (is_kept p.part.now p.full p.most text trimmed f room).0 kept in
    search (rules, counted)
