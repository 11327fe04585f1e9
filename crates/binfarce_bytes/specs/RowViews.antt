-- The views of arranged rows that clauses use.
use Rattle.std.specs.Prelude.{List, map}
use Rattle.binfarce_bytes.specs.declared.sizes.RowAddress as code
use Rattle.binfarce_bytes.specs.Sizes.{RowAddress}

abbrev pub row_view : code.RowAddress → RowAddress
row_view r = record { address = r.address; row = r.index }

abbrev pub rows_view : List code.RowAddress → List RowAddress
rows_view rows = map row_view rows
