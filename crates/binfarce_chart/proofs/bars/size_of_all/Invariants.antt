use Rattle.std.proofs.Common.{◌≡◌, ◌+◌, drop, map}
use Rattle.binfarce_chart.specs.Chart.{total}
use Rattle.binfarce_chart.specs.Views.{bar_view}
use Rattle.binfarce_chart.proofs.bars.size_of_all.Given as goal

-- with the sizes that are left, the sum is that of all
abbrev pub invariant-loop-bar : goal.invariant-loop-bar
invariant-loop-bar l = l.sum + total (map bar_view (drop l.bar-index l.bars)) ≡ total (map bar_view l.bars)
