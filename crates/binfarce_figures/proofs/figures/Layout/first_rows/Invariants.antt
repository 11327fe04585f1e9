use Rattle.std.proofs.Common.{◌≡◌, take}
use Rattle.std.specs.List.{flat_map}
use Rattle.std.specs.String.{string_bytes}
use Rattle.binfarce_figures.specs.Figures.{figure_row}
use Rattle.binfarce_figures.specs.machine.Columns.{row_text}
use Rattle.binfarce_figures.proofs.figures.Layout.first_rows.Given as goal

-- the rows so far
abbrev pub invariant-loop-row : goal.invariant-loop-row
invariant-loop-row l = string_bytes l.text ≡ flat_map (figure_row (row_text l.self)) (take l.row-index (take l.count l.rows))
