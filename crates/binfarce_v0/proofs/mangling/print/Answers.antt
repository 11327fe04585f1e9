use Rattle.std.proofs.Common.{ap, sym, subst, ◌∙◌, not}
use Rattle.std.specs.Prelude.{MatchBool}
use Rattle.binfarce_v0_state.specs.TreeTexts.{InValue}
use Rattle.binfarce_v0_grammar.specs.Tree.{PathTree}
use Rattle.binfarce_v0_grammar.specs.Unfolding.{UnfoldsTo}
use Rattle.binfarce_v0_grammar.specs.declared.limits.TheConstants.{MAX_LEVELS}
use Rattle.binfarce_v0_state.specs.machine.Printing.{Printing, with_state, readers}
use Rattle.binfarce_v0.specs.machine.Outcome.{IsOutcomeOf}
use Rattle.binfarce_v0.proofs.Manglings.{print_gives_outcome}
use Rattle.binfarce_v0.proofs.mangling.print.Goals as goal

pub returns : goal.returns
returns c =
    let begun : Printing = c.args.printer.now in
    let p : Printing = c.print_path.new.printer in
    let same = c.in_ok-print_path.ensures.printed ∙ ap (λ (x : Printing). with_state ((readers x.part MAX_LEVELS).path InValue 0 x.state).1 x) c.prepare.ensures in
    subst (λ b. MatchBool (not b) (IsOutcomeOf begun p) ((tree : PathTree) → UnfoldsTo begun.part tree → ⊥)) (ap (λ (x : Printing). x.state.limit_exceeded) (sym c.printer.view_is)) (print_gives_outcome begun p c.requires same)
