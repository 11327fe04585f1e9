use Rattle.std.proofs.Common.{◌≡◌, ◌≤◌, ◌+◌, ◌*◌, ◌++◌, drop, map}
use Rattle.std.specs.String.{string_bytes}
use Rattle.binfarce_chart.specs.Chart.{largest, total}
use Rattle.binfarce_chart.specs.Svg.{rows}
use Rattle.binfarce_chart.specs.Views.{bar_view}
use Rattle.binfarce_chart.proofs.svg.push_rows.Given as goal

-- with the rows of what is left, the text has those of all
abbrev pub invariant-loop-bar : goal.invariant-loop-bar
invariant-loop-bar l = record {
  rows : string_bytes l.text ++ rows l.sum l.most l.before l.top (map bar_view (drop l.bar-index l.bars)) ≡ string_bytes l.fn.text ++ rows l.sum l.most 0 64 (map bar_view l.bars);
  sum : l.before + total (map bar_view (drop l.bar-index l.bars)) ≤ l.sum;
  most : largest (map bar_view (drop l.bar-index l.bars)) ≤ l.most;
  top : l.top ≡ 64 + 24 * l.bar-index;
}
