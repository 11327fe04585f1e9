use Rattle.std.proofs.Common.{◌≡◌, ◌++◌, map}
use Rattle.binfarce_figures.specs.Figures.{figure_view}
use Rattle.binfarce_figures.proofs.Ranked.{entry_numbers}
use Rattle.binfarce_figures.proofs.figures.Layout.figures_of.Given as goal

-- with the figures of what is left after them, they are those of all
abbrev pub invariant-loop-name : goal.invariant-loop-name
invariant-loop-name l = map figure_view l.figures.items ++ entry_numbers l.self.columns l.name-iterator ≡ entry_numbers l.self.columns l.numbers.entries
