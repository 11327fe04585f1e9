use Rattle.std.proofs.Common.{◌≡◌, drop, map, max}
use Rattle.binfarce_chart.specs.Chart.{largest}
use Rattle.binfarce_chart.specs.Views.{bar_view}
use Rattle.binfarce_chart.proofs.bars.largest_of.Given as goal

-- the larger of the largest so far and the largest of what is left is the largest of all
abbrev pub invariant-loop-bar : goal.invariant-loop-bar
invariant-loop-bar l = max l.most (largest (map bar_view (drop l.bar-index l.bars))) ≡ largest (map bar_view l.bars)
