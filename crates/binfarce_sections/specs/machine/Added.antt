-- The bytes of changes by their names.
use Rattle.std.specs.Prelude.{ℕ, List, Option, Some, None, if◌then◌else◌, unwrap_or}
use Rattle.std.specs.List.{list_any, sum_by}
use Rattle.std.specs.Str.{bytes_eq}
use Rattle.binfarce_sections.specs.declared.changes.Change.{Change}

-- no bytes, if there are none yet
abbrev pub or_none : Option (ℕ × ℕ) → ℕ × ℕ
or_none (Some bytes) = bytes
or_none None = (0, 0)

-- a number of the changes of a name
abbrev pub sum_in : (number : Change → ℕ) → (name : List ℕ) → List Change → ℕ
sum_in number name changes = sum_by (λ c. if bytes_eq c.name.now name then number c else 0) changes

-- the bytes of a name, if a change has it
abbrev pub bytes_in : List Change → (name : List ℕ) → Option (ℕ × ℕ)
bytes_in changes name = if list_any (λ c. bytes_eq name c.name.now) changes then Some (sum_in (λ c. c.old) name changes, sum_in (λ c. c.new) name changes) else None
