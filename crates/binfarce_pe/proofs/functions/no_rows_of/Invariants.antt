use Rattle.std.proofs.Common.{◌≡◌, [], length, All}
use Rattle.binfarce_pe.proofs.functions.no_rows_of.Given as goal

-- so many, and nothing is held of each
abbrev pub invariant-loop-index : goal.invariant-loop-index
invariant-loop-index l = (length l.held.items ≡ l._index) × All (λ h. (h.rows.items ≡ []) × (h.names.items ≡ [])) l.held.items
