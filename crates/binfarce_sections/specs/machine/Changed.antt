-- Changes between files before they are shown.
use Rattle.std.specs.Prelude.{◌+◌, ◌<◌, ◌^◌, ◌∷◌, [], List, if◌then◌else◌}
use Rattle.std.specs.List.{sum_by}
use Rattle.std.specs.Str.{bytes_eq}
use Rattle.binfarce_sections.specs.declared.changes.Change.{Change}

-- the sums over changes are numbers of 64 bits, and of bytes in memory of 128
abbrev pub Fit : List Change → Type 0
Fit changes =
    (sum_by (λ c. c.old) changes < 2 ^ 64) × (sum_by (λ c. c.new) changes < 2 ^ 64)
    × (sum_by (λ c. c.old_memory) changes < 2 ^ 128) × (sum_by (λ c. c.new_memory) changes < 2 ^ 128)

-- two changes of one name become one: their numbers are added
abbrev pub added : Change → Change → Change
added a b = record { name = a.name; old = a.old + b.old; new = a.new + b.new; old_memory = a.old_memory + b.old_memory; new_memory = a.new_memory + b.new_memory }

-- a change, and then others: neighbours of one name become one
abbrev pub joined_to : Change → List Change → List Change
joined_to c [] = c ∷ []
joined_to c (next ∷ others) = if bytes_eq c.name.now next.name.now then joined_to (added c next) others else c ∷ joined_to next others

abbrev pub joined : List Change → List Change
joined [] = []
joined (c ∷ others) = joined_to c others
