-- A part of a file, and sets of parts.
use Rattle.std.specs.Prelude.{◌≡◌, ℕ, ◌+◌, Bool, true, List, [], ◌∷◌, length, All, Option, Some, None, nat_le, if◌then◌else◌}
use Rattle.binfarce_bytes.specs.Field.{Field}

-- so many bytes of a file from an offset on; for a part that extends past the file's end, those that are there
pub record Part : Type 0 where
  pub offset : ℕ
  pub size : ℕ

abbrev pub part : ℕ → ℕ → Part
part offset size = record { offset = offset; size = size }

-- a field of the structure that begins at start
abbrev pub field_part : ℕ → Field → Part
field_part start f = part (start + f.offset) f.width

-- bytes that are read only if all of them lie in the file: a part there, and else none
abbrev pub whole_part : List ℕ → ℕ → ℕ → List Part
whole_part file offset size = if nat_le (offset + size) (length file) then part offset size ∷ [] else []

-- the parts of an optional structure
abbrev pub parts_if : {A : Type 0} → Option A → (A → List Part) → List Part
parts_if None parts = []
parts_if (Some x) parts = parts x

-- a set of parts: its answer to the question whether it has a part
abbrev pub PartSet : Type 0
PartSet = Part → Bool

-- the set has each of these parts
abbrev pub HasAll : PartSet → List Part → Type 0
HasAll set parts = All (λ p. set p ≡ true) parts
