-- How many bytes of two files count for each name of their sections.
use Rattle.std.specs.Prelude.{ℕ, List, ◌++◌, Option, Some, None, if◌then◌else◌}
use Rattle.std.specs.BTreeMap.{BTreeMap, get_by}
use Rattle.std.specs.Cmp.Lexicographic.{slice_cmp}
use Rattle.std.specs.List.{list_any}
use Rattle.std.specs.Ordering.{nat_cmp}
use Rattle.std.specs.Str.{bytes_eq}
use denote.Ref.{Bor}
use Rattle.binfarce_sections.specs.Changes.{Part, sum_named}

-- the bytes at a name
abbrev pub at_name : BTreeMap (Bor (List ℕ)) (ℕ × ℕ) → (name : List ℕ) → Option (ℕ × ℕ)
at_name rows name = get_by (λ k. slice_cmp nat_cmp name k.now) rows

-- the bytes in an old file and in a new one that count for a name, if a part of either has it
abbrev pub bytes_at : (old new : List Part) → (name : List ℕ) → Option (ℕ × ℕ)
bytes_at old new name = if list_any (λ p. bytes_eq name p.name) (old ++ new) then Some (sum_named (λ p. p.bytes) name old, sum_named (λ p. p.bytes) name new) else None
