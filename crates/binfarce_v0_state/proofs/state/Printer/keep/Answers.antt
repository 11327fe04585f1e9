use Rattle.std.proofs.Common.{◌≡◌, ◌≤◌, ◌++◌, true, length, rules}
use Rattle.std.specs.String.{string_bytes}
use Rattle.binfarce_v0_grammar.specs.declared.limits.TheConstants.{MAX_LEVELS}
use Rattle.binfarce_v0_state.specs.machine.Counted.{counted}
use Rattle.binfarce_v0_state.specs.machine.Kept.{IsKept}
use Rattle.binfarce_v0_state.specs.machine.Printing.{has_room}
use Rattle.binfarce_v0_state.proofs.KeptLemmas.{is_kept, kept_more}
use Rattle.binfarce_v0_state.proofs.state.Printer.keep.Goals as goal

pub invariant_of-self-2 : goal.invariant_of-self-2
invariant_of-self-2 c =
    let p = c.self.inside in
    let text = string_bytes p.complete ++ string_bytes p.text in
    let trimmed = string_bytes p.trimmed ++ string_bytes p.text in
    let P = IsKept p.part.now p.full text trimmed in
    let there : has_room c.args.self.now.state ≡ true = search rules in
    let room = rw (← c.self.view_is) at there in
    let may = rw (← c.self.view_is) at c.requires in
    let kept = may c.in-Some._after c.in-Some.is c.if-self.false room in
    let end : c.text_len-end.result ≡ length (counted p.most text) = rw (← c.self.view_is) at c.text_len-end.ensures in
    let trimmed_end : c.trimmed_len-trimmed_end.result ≡ length (counted p.most trimmed) = rw (← c.self.view_is) at c.trimmed_len-trimmed_end.ensures in
    let least_levels_left : c.min-self-inside.result ≤ MAX_LEVELS = search rules in
    (c.self.invariant.0, (c.self.invariant.1.0, least_levels_left), rw c.keep.ensures (kept_more P _ _ _ c.self.invariant.2 ((is_kept p.part.now p.full p.most text trimmed _ room).1 (rw (end, trimmed_end, c.saturating_sub.ensures, c.saturating_sub-2.ensures) kept))), c.self.invariant.3)
