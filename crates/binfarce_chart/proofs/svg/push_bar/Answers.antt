use Rattle.binfarce_chart.specs.Svg.{bar}
use Rattle.binfarce_chart.proofs.Texts.{on_ok, three}
use Rattle.binfarce_chart.proofs.svg.push_bar.Goals as goal

pub returns : goal.returns
unfolding bar
returns c = on_ok _ _ c.write.result (λ last. three _ _ _ _ _ _ _ c.in_ok-push_str.ensures.bytes c.in_ok-push_percents.ensures last) c.write.ensures.bytes
