use Rattle.std.proofs.Common.{◌≡◌, [], length, All}
use Rattle.binfarce_macho.proofs.functions.nothing_kept.Given as goal

-- so many, and nothing is kept of each
abbrev pub invariant-loop-index : goal.invariant-loop-index
invariant-loop-index l = (length l.kept.items ≡ l._index) × All (λ rows. rows.items ≡ []) l.kept.items
