-- The place of a function symbol among those of a file, from 0 on.
use Rattle.std.specs.Prelude.{◌≡◌, ℕ, Bool, ◌<◌, List, length, slice_index_or, Option, Some, None, MatchOption}
use Rattle.binfarce.specs.Named.{IsShown}
use Rattle.binfarce.specs.Symbol.{Entry}
use Rattle.binfarce_addresses.specs.Lookup.{found_in, in_file}
use Rattle.binfarce_addresses.specs.declared.lookup.Lookup.{Lookup}

-- the entry is at the place
abbrev pub IsAtPlace : List Entry → ℕ → Entry → Type 0
IsAtPlace entries place entry = (place < length entries) × (slice_index_or entries place entry ≡ entry)

-- the text is the readable name of the entry at the place
abbrev pub IsNamedAt : List Entry → ℕ → List ℕ → Type 0
IsNamedAt entries place text = (entry : Entry) → IsAtPlace entries place entry → (name : List ℕ) × IsShown entry.name name × (text ≡ name)

-- this is found at an address in the file, or at none: the place of an entry, and the offset into it
abbrev pub IsFoundIn : List Entry → (is_return : Bool) → Option ℕ → Option (ℕ × ℕ) → Type 0
IsFoundIn entries is_return address found =
    MatchOption found (found_in entries is_return address ≡ None)
    (λ f. (entry : Entry) × (found_in entries is_return address ≡ Some (entry, f.1)) × IsAtPlace entries f.0 entry)

-- the address symbolizes to this
abbrev pub IsShownAt : List Entry → Lookup → ℕ → Option (ℕ × ℕ) → Type 0
IsShownAt entries lookup address found = IsFoundIn entries lookup.is_return (in_file lookup address) found
