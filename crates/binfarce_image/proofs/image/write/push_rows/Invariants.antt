use Rattle.std.proofs.Common.{◌≡◌, ◌++◌, drop}
use Rattle.std.specs.List.{AllByRecursion, flat_map}
use Rattle.binfarce_image.specs.Image.{class_of, order_of, symbol_bytes}
use Rattle.binfarce_image.specs.ImageSymbols.{RowFits}
use Rattle.binfarce_image.proofs.image.write.push_rows.Given as goal

-- with the rows that are left the file has all rows, and all rows fit
abbrev pub invariant-loop-row : goal.invariant-loop-row
invariant-loop-row l = record {
  rows : l.file.items ++ flat_map (symbol_bytes (class_of l.layout) (order_of l.layout)) (drop l.row-index l.rows) ≡ l.fn.file.items ++ flat_map (symbol_bytes (class_of l.layout) (order_of l.layout)) l.rows;
  fits : AllByRecursion RowFits (drop l.row-index l.rows) → AllByRecursion RowFits l.rows;
}
