use Rattle.std.proofs.Common.{List, ◌++◌, String, map, sym, ap, ◌∙◌, append-nil}
use Rattle.std.specs.Global.{Global}
use Rattle.binfarce_chart.specs.Views.{bar_view}
use Rattle.binfarce_figures.specs.declared.sums.Numbers.{Numbers}
use Rattle.binfarce_figures.proofs.Drawn.{are_bars, entry_bars}
use Rattle.binfarce_figures.proofs.map.bars_of.Goals as goal

pub returns : goal.returns
returns c = λ first second are.
    let bars = map bar_view c.loop-name.bars.items in
    are_bars first second c.args.numbers.now bars are c.iter-name-items.ensures.ordered
    (sym (append-nil bars) ∙ ap (λ (es : List (String Global × Numbers)). bars ++ entry_bars es) (sym c.in-None.ensures.steps.0) ∙ c.loop-name.invariant)
