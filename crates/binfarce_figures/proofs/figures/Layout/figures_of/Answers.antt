use Rattle.std.proofs.Common.{List, ◌++◌, String, map, sym, ap, ◌∙◌, append-nil}
use Rattle.std.specs.Global.{Global}
use Rattle.binfarce_figures.specs.declared.sums.Numbers.{Numbers}
use Rattle.binfarce_figures.specs.Figures.{figure_view}
use Rattle.binfarce_figures.proofs.Ranked.{are_figures, entry_numbers}
use Rattle.binfarce_figures.proofs.figures.Layout.figures_of.Goals as goal

pub returns : goal.returns
returns c = λ first second are.
    let figures = map figure_view c.loop-name.figures.items in
    are_figures first second c.args.numbers.now are c.args.self.now.columns c.loop-name.figures.items c.iter-name-items.ensures.ordered
    (sym (append-nil figures) ∙ ap (λ (es : List (String Global × Numbers)). figures ++ entry_numbers c.args.self.now.columns es) (sym c.in-None.ensures.steps.0) ∙ c.loop-name.invariant)
