use Rattle.std.proofs.Common.{ℕ, [], ◌++◌, ◌∙◌, ap, arith, get_or}
use Rattle.std.specs.String.{string_bytes}
use Rattle.binfarce_chart.specs.declared.bars.Bar.{Bar}
use Rattle.binfarce_chart.specs.Chart.{width}
use Rattle.binfarce_chart.specs.Svg.{row}
use Rattle.binfarce_chart.specs.Views.{bar_view}
use Rattle.binfarce_chart.proofs.Rows.{left_largest, left_sum, one_row}
use Rattle.binfarce_chart.proofs.svg.push_rows.Goals as goal

pub loop-bar-preserved : goal.loop-bar-preserved
loop-bar-preserved c =
    let none : Bar = record { name = record { ref_ptr = (0, 0); now = [] }; size = 0 } in
    let bars = c.args.bars.now in
    let i = c.loop-bar.bar-index in
    let bar = get_or bars i none in
    record {
      rows = one_row bars i none c.args.sum c.args.most c.loop-bar.before c.loop-bar.top (string_bytes c.loop-bar.text) (string_bytes c.push_row.new.text) _ c.loop-bar-test.true
          (c.in_ok-push_row.ensures ∙ ap (λ (n : ℕ). string_bytes c.loop-bar.text ++ row c.loop-bar.top (bar_view bar) c.length_of-share.result n) c.width_of.ensures
          ∙ ap (λ (n : ℕ). string_bytes c.loop-bar.text ++ row c.loop-bar.top (bar_view bar) n (width c.args.most bar.size)) c.length_of-share.ensures) c.loop-bar.invariant.rows;
      sum = omega (arith, left_sum bars i none c.loop-bar-test.true, c.loop-bar.invariant.sum);
      most = omega (arith, left_largest bars i none c.loop-bar-test.true, c.loop-bar.invariant.most);
      top = omega (arith, c.loop-bar.invariant.top);
    }
