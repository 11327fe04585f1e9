-- The output for a text before more of it comes.
use Rattle.std.specs.Prelude.{ℕ, Bool, List, ◌++◌}
use Rattle.binfarce_filtering.specs.Filter.{IsFiltered}

-- shown replaces the text, whatever comes after it
abbrev pub Continues : (full : Bool) (text shown : List ℕ) → Type 0
Continues full text shown = (more filtered : List ℕ) → IsFiltered full more filtered → IsFiltered full (text ++ more) (shown ++ filtered)
