use Rattle.std.proofs.Common.{◌-◌, length, arith}
use Rattle.binfarce_figures.specs.declared.figures.Figure.{Figure}
use Rattle.binfarce_figures.proofs.Ranked.{part_le}
use Rattle.binfarce_figures.proofs.figures.Layout.first_rows.Goals as goal

pub push_others-requires : goal.push_others-requires
push_others-requires c =
    let rows = c.args.rows.now in
    let n = c.count_of-count.result in
    (omega (arith, part_le (λ (f : Figure). f.sum) rows (length rows - n) n, c.requires.0), omega (arith, part_le (λ (f : Figure). f.other) rows (length rows - n) n, c.requires.1))
