use Rattle.std.proofs.Common.{◌≡◌, ◌+◌, ◌*◌, ◌≤◌, All, length}
use Rattle.std.specs.List.{range_with_len, filter_map}
use Rattle.binfarce_bytes.specs.RowViews.{rows_view}
use Rattle.binfarce_macho.specs.MachoSymbols.{address_of}
use Rattle.binfarce_macho.proofs.functions.rows_of.Given as goal

-- those of the rows so far
abbrev pub invariant-loop-k : goal.invariant-loop-k
invariant-loop-k l =
    (rows_view l.rows.items ≡ filter_map (address_of l.symbols.rows.now) (range_with_len 0 l.k)) × All (λ r. r.index * 16 + 16 ≤ length l.symbols.rows.now) l.rows.items
