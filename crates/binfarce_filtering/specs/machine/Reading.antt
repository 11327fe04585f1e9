-- How a run is read from left to right.
use Rattle.std.specs.Prelude.{◌≡◌, ℕ, Bool, false, List, drop, ◌++◌}
use Rattle.binfarce_filtering.specs.Filter.{IsRead}

-- new is old and more, the output for the first n bytes of a run or of its rest: more and any replacement of the bytes after them replace all
abbrev pub ShowsFirst : (full first : Bool) (run : List ℕ) (n : ℕ) (old new : List ℕ) → Type 0
ShowsFirst full first run n old new =
    (more : List ℕ) × ((rest : List ℕ) → IsRead full false (drop n run) rest → IsRead full first run (more ++ rest)) × (new ≡ old ++ more)
