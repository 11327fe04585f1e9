use Rattle.std.proofs.Common.{sym, ◌∙◌, drop}
use Rattle.binfarce_names.proofs.FirstPart.{before_match, no_match}
use Rattle.binfarce_figures.proofs.key.first_part.Goals as goal

pub returns-in-Some : goal.returns-in-Some
returns-in-Some c =
    let h = c.in-Some.ensures.cases in
    h.3 ∙ sym (before_match h.0 c.args.path.now h.2.0 (drop h.1 c.args.path.now) h.2.1.split)

pub returns-in-None : goal.returns-in-None
returns-in-None c = sym (no_match c.args.path.now c.in-None.ensures.cases)
