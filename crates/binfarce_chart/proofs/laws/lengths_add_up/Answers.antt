use Rattle.std.proofs.Common.{map}
use Rattle.binfarce_chart.specs.Chart.{total}
use Rattle.binfarce_chart.specs.Views.{bar_view}
use Rattle.binfarce_chart.proofs.Lengths.{adds_up, all_within}
use Rattle.binfarce_chart.proofs.laws.lengths_add_up.Goals as goal

pub returns-clause-sum : goal.returns-clause-sum
returns-clause-sum c = adds_up (map bar_view c.args.bars.now)

pub returns-clause-shares : goal.returns-clause-shares
returns-clause-shares c = all_within (total (map bar_view c.args.bars.now)) 0 (map bar_view c.args.bars.now)
