-- Which rows are above their limits, and which limits have no row.
use Rattle.std.specs.Prelude.{ℕ, Bool, List, [], ◌∷◌, ◌++◌, codes, Option, Some, None, is_some}
use Rattle.std.specs.List.{flat_map}
use Rattle.std.specs.String.{string_bytes}
use Rattle.binfarce_words.specs.WordViews.{limit_words}
use Rattle.binfarce_words.specs.declared.takes.Limit.{Limit}
use Rattle.binfarce_limits.specs.Excess.{excess_of, excess_words}
use Rattle.binfarce_limits.specs.declared.excess.Counted.{Counted}
use Rattle.binfarce_limits.specs.declared.excess.Excess.{Excess}
use Rattle.binfarce_limits.specs.declared.rows.Finding.{Finding}
use Rattle.binfarce_limits.specs.declared.rows.RowLimit.{RowLimit}

-- a limit on the row of a name
pub record NameLimit : Type 0 where
  pub name : List ℕ
  pub limit : Limit

-- a `RowLimit`
abbrev pub limit_view : RowLimit → NameLimit
limit_view l = record { name = l.name.now; limit = l.limit }

-- a finding on a limit: what is more than it, or that no row has its name
pub record Found : Type 0 where
  pub name : List ℕ
  pub limit : Limit
  pub excess : Option Excess

-- a `Finding`
abbrev pub finding_view : Finding → Found
finding_view f = record { name = string_bytes f.name; limit = f.limit; excess = f.excess }

-- a limit whose row has this excess, if any
abbrev pub exceeded : NameLimit → (more : Option Excess) → List Found
exceeded limit (Some more) = record { name = limit.name; limit = limit.limit; excess = Some more } ∷ []
exceeded limit None = []

-- the finding on a limit, by what is counted for its row: none if that is within it
abbrev pub judged : Option Counted → NameLimit → List Found
judged (Some count) limit = exceeded limit (excess_of count limit.limit)
judged None limit = record { name = limit.name; limit = limit.limit; excess = None } ∷ []

-- so of limits, in their order
abbrev pub findings : (rows : List ℕ → Option Counted) → List NameLimit → List Found
findings rows limits = flat_map (λ l. judged (rows l.name) l) limits

-- a row is above its limit
abbrev pub is_found_above : Found → Bool
is_found_above f = is_some f.excess

-- the printed words
abbrev pub words_with : (name : List ℕ) → Limit → Option Excess → List ℕ
words_with name limit (Some more) = name ++ (codes " " ++ (excess_words more ++ (codes ", and --limits allows " ++ limit_words limit)))
words_with name limit None = codes "no row is named " ++ (name ++ codes ", which --limits names")

abbrev pub found_words : Found → List ℕ
found_words f = words_with f.name f.limit f.excess

abbrev pub finding_words : Finding → List ℕ
finding_words f = found_words (finding_view f)
