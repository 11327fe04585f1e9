use Rattle.std.proofs.Common.{◌≡◌, ◌≤◌, ◌-◌, ◌&&◌, not, min, Some, false, ap, ◌∙◌, arith, rules}
use Rattle.std.proofs.lemmas.Bool.Decides.{nat_tests}
use Rattle.binfarce_v0_state.specs.machine.Kept.{production_view, again}
use Rattle.binfarce_v0_state.specs.machine.Printing.{Printing, with_state}
use Rattle.binfarce_v0_state.proofs.KeptLemmas.{kept_again}
use Rattle.binfarce_v0_state.proofs.state.Printer.print_kept.Goals as goal
use Rattle.binfarce_v0_state.proofs.state.Printer.print_kept.Goals.{then-muted, else-muted}

pub returns : goal.returns
returns c =
    let p : Printing = c.args.self.now in
    let f = c.in-Some.found.now in
    let limit_exceeded : p.state.limit_exceeded ≡ false = rw (← c.self.view_is) c.if-self.false in
    let high : f.height ≤ c.args.levels_left = omega (arith, c.if-height-levels_left.false) in
    let steps_left : f.steps ≤ p.state.steps_left = rw (← c.self.view_is) (omega (arith, c.if-steps-self.false)) in
    let hears : (f.muted && not p.state.muted) ≡ false = rw (← c.self.view_is) (elim c.if-muted.branch [ then-muted w ↦ grind (arith, nat_tests) | else-muted w ↦ grind (arith, nat_tests) ]) in
    let kept = kept_again (production_view c.args.key.production) c.args.levels_left c.args.key.binder_depth p c.args.key.at c.args.after f.start f.end f.trimmed_start f.trimmed_end f.steps f.height f.left_open f.muted limit_exceeded c.in-Some.ensures high steps_left hears in
    let written : c.write_again.new.self ≡ with_state (again f p.state) p = search rules in
    let same = c.self-2.view_is ∙ written in
    let least_levels_left : c.min-self-inside.result ≡ min c.self-2.inside.least_levels_left (c.args.levels_left - f.height) = search rules in
    let then : Printing → Printing = λ v. with_state (record v.state { at = Some c.args.after; steps_left = v.state.steps_left - f.steps; least_levels_left = min v.state.least_levels_left (c.args.levels_left - f.height) }) v in
    (rw least_levels_left (ap then same) ∙ kept.0, kept.1)
