-- The entry that an address symbolizes to.
use Rattle.std.specs.Prelude.{ℕ, ◌+◌, Bool, ◌&&◌, List, [], ◌∷◌, filter, max, Option, Some, None, nat_lt, nat_le, if◌then◌else◌}
use Rattle.binfarce_bytes.specs.Entries.{Entry}

-- the address lies in the entry's range: from the entry's address on, and before its end, which may lie past 64 bits. An entry of size 0 holds its
-- own address alone
abbrev pub holds : ℕ → Entry → Bool
holds address entry = nat_le entry.address address && nat_lt address (entry.address + max entry.size 1)

-- the entry, or the other one where that has a greater address
abbrev pub higher_of : Entry → Option Entry → Entry
higher_of entry None = entry
higher_of entry (Some other) = if nat_lt entry.address other.address then other else entry

-- the entry of greatest address, and of several the first
unfoldable pub highest : List Entry → Option Entry
highest [] = None
highest (entry ∷ others) = Some (higher_of entry (highest others))

-- the entry that an address symbolizes to: of those that hold it the one of greatest address, and of several the first in order
unfoldable pub entry_at : List Entry → ℕ → Option Entry
entry_at entries address = highest (filter (holds address) entries)
