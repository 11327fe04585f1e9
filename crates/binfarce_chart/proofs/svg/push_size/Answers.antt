use Rattle.binfarce_chart.specs.Svg.{size_text}
use Rattle.binfarce_chart.proofs.Texts.{on_ok, three}
use Rattle.binfarce_chart.proofs.svg.push_size.Goals as goal

pub returns : goal.returns
unfolding size_text
returns c = on_ok _ _ c.writeln.result (λ last. three _ _ _ _ _ _ _ c.in_ok-push_str.ensures.bytes c.in_ok-push_amount.ensures last) c.writeln.ensures.bytes
