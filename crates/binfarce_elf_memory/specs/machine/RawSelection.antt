-- Views of versions' definitions, and the keys of the ends, for private clauses.
use Rattle.std.specs.Prelude.{ℕ, ◌+◌, ◌*◌, ◌^◌, ◌<◌, List, [], ◌∷◌, if◌then◌else◌, Option, Some, None, map, All, IsPermutation}
use Rattle.std.specs.Global.{Vec}
use Rattle.std.specs.List.Sorted.{IsNonDecreasingBy}
use Rattle.binfarce_elf_memory.specs.declared.versions.Definition as code
use Rattle.binfarce_elf.specs.Elf.{Section}
use Rattle.binfarce_elf_memory.specs.Descriptors.{end_number, has_code}
use Rattle.binfarce_elf_memory.specs.ElfEnds.{End}
use Rattle.binfarce_elf_memory.specs.Versions.{Definition}

-- a `Definition`
abbrev pub definition_view : code.Definition → Definition
definition_view d = record { index = d.index; name = d.name; next = d.next }

-- the number that an end is kept as: in the order of sections, and in each of addresses
abbrev pub key_of : End → ℕ
key_of e = e.section * 2 ^ 64 + e.address

-- the numbers of these ends, in order
pub record AreKeysOf (ends : List End) (keys : List ℕ) : Type 0 where
  pub same : IsPermutation (map key_of ends) keys
  pub rises : IsNonDecreasingBy (λ k. k) keys
  pub small : All (λ e. e.address < 2 ^ 64) ends

-- these rows, unless there are others
abbrev pub rows_or : List ℕ → Option (Vec ℕ) → List ℕ
rows_or rows None = rows
rows_or rows (Some others) = others.items

-- the number of the end of a section of code
abbrev pub ends_of : Option Section → List ℕ
ends_of None = []
ends_of (Some s) = if has_code s then end_number s ∷ [] else []
