use Rattle.std.proofs.Common.{ap, sym, subst, ◌∙◌}
use Rattle.binfarce_v0_state.specs.machine.Printing.{Printing}
use Rattle.binfarce_v0.specs.machine.Outcome.{IsCandidate}
use Rattle.binfarce_v0.proofs.Manglings.{all_counted}
use Rattle.binfarce_v0.proofs.Validating.{no_mangling}
use Rattle.binfarce_v0.proofs.mangling.both_texts.Goals as goal

pub returns-in_default : goal.returns-in_default
returns-in_default c = no_mangling c.args.text.now c.in_default.ensures

pub returns-in_default-2 : goal.returns-in_default-2
returns-in_default-2 c =
    let begun = subst (λ x. IsCandidate c.args.text.now x) (sym (ap (λ (p : Printing). p.part) c.new-printer.ensures)) c.in-Some.ensures in
    rw c.in_default-2.is at (c.in_ok-_rest.ensures c.args.text.now begun)

pub texts-requires : goal.texts-requires
texts-requires c =
    let begun = subst (λ x. IsCandidate c.args.text.now x) (sym (ap (λ (p : Printing). p.part) c.new-printer.ensures)) c.in-Some.ensures in
    let found = rw c.in-Some-2.is at (c.in_ok-_rest.ensures c.args.text.now begun) in
    all_counted c.print_mangling.new.printer.state (found.1.3 ∙ ap (λ (p : Printing). p.state.most) c.new-printer.ensures)
