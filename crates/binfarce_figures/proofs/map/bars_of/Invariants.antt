use Rattle.std.proofs.Common.{◌≡◌, ◌++◌, map}
use Rattle.binfarce_chart.specs.Views.{bar_view}
use Rattle.binfarce_figures.proofs.Drawn.{entry_bars}
use Rattle.binfarce_figures.proofs.map.bars_of.Given as goal

-- with the bars of what is left after them, they are those of all
abbrev pub invariant-loop-name : goal.invariant-loop-name
invariant-loop-name l = map bar_view l.bars.items ++ entry_bars l.name-iterator ≡ entry_bars l.numbers.entries
