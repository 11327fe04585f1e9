use Rattle.std.proofs.Common.{sym, ap, ◌∙◌, length, Some, List, ℕ, ◌+◌}
use Rattle.std.specs.Prelude.{nat_eq}
use Rattle.std.specs.List.{starts_with}
use Rattle.std.proofs.lemmas.List.{drop-drop}
use Rattle.binfarce_logs.proofs.Marks.{mark_here, mark_step, to_end}
use Rattle.binfarce_logs.proofs.faults.behind_mark.Goals as goal

pub returns-then-starts_with : goal.returns-then-starts_with
returns-then-starts_with c =
    let mark = c.args.mark.now in
    let text = c.args.text.now in
    let at = c.loop-at.at in
    let here = mark_here mark text at c.loop-at-test.true (ap (λ (x : List ℕ). starts_with nat_eq x mark) (sym (to_end at text)) ∙ sym c.starts_with.ensures.value ∙ c.if-starts_with.true) in
    sym (c.loop-at.invariant ∙ here ∙ ap Some (drop-drop (length mark) at text) ∙ ap Some (sym (to_end (at + length mark) text)))

pub loop-at-preserved : goal.loop-at-preserved
loop-at-preserved c =
    let mark = c.args.mark.now in
    let text = c.args.text.now in
    let at = c.loop-at.at in
    c.loop-at.invariant ∙ mark_step mark text at c.loop-at-test.true (ap (λ (x : List ℕ). starts_with nat_eq x mark) (sym (to_end at text)) ∙ sym c.starts_with.ensures.value ∙ c.if-starts_with.false)
