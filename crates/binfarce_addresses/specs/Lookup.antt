-- What an address symbolizes to.
use Rattle.std.specs.Prelude.{ℕ, ◌+◌, ◌-◌, ◌^◌, Bool, true, false, not, ◌&&◌, ◌||◌, List, ◌++◌, Option, Some, None, is_some, nat_le, nat_lt, if◌then◌else◌}
use Rattle.std.specs.List.{filter_map, list_any}
use Rattle.std.specs.Option.{option_map, option_or}
use Rattle.std.specs.Str.{bytes_eq}
use Rattle.binfarce.specs.Found.{entry_at}
use Rattle.binfarce.specs.SectionEntries.{SectionEntry, SelectedSymbols}
use Rattle.binfarce.specs.Symbol.{Entry}
use Rattle.binfarce_addresses.specs.declared.lookup.Lookup.{Lookup}

-- a symbol of an ELF file is local where its binding, the high four bits of its info, is STB_LOCAL (0); the type of a function isn't 0 (System V gABI,
-- "Symbol Table")
abbrev pub is_local : (info : ℕ) → Bool
is_local info = nat_lt 0 info && nat_lt info 16

abbrev pub local_entry : SectionEntry → Option Entry
local_entry e = if is_local e.info then Some e.entry else None

abbrev pub other_entry : SectionEntry → Option Entry
other_entry e = if is_local e.info then None else Some e.entry

-- the entries among which an address is looked up: those that aren't local before those that are. So of aliases, the name that other files know comes first
abbrev pub with_local_last : List SectionEntry → List Entry
with_local_last entries = filter_map other_entry entries ++ filter_map local_entry entries

abbrev pub places_in : SelectedSymbols → List Entry
places_in selected = with_local_last selected.entries

-- a function symbol has this name, as it is stored
abbrev pub has_symbol : List Entry → (name : List ℕ) → Bool
has_symbol entries name = list_any (λ (entry : Entry). bytes_eq entry.name name) entries

-- the number, if 64 bits hold it
abbrev pub in_64_bits : ℕ → Option ℕ
in_64_bits n = if nat_lt n (2 ^ 64) then Some n else None

-- what is so far behind the base is within these bytes, if there is a number of them; of return addresses also the one behind a call at their end
abbrev pub is_within : (size : Option ℕ) (is_return : Bool) (distance : ℕ) → Bool
is_within None is_return distance = true
is_within (Some size) false distance = nat_lt distance size
is_within (Some size) true distance = nat_le distance size

-- the address in the file of an address in memory, where the file is loaded at the base, and says itself that it is loaded at the linked address; or of an
-- offset in the file, where so many bytes of it, of which the first has the base as its offset, are loaded at the linked address. It has the same distance
-- to both. None below the base, or for other bytes. Without a base addresses are the file's own
abbrev pub loaded_at : (base size : Option ℕ) (is_return : Bool) (linked address : ℕ) → Option ℕ
loaded_at None size is_return linked address = Some address
loaded_at (Some base) size is_return linked address =
    if nat_lt address base || not (is_within size is_return (address - base)) then None else in_64_bits (address - base + linked)

-- the address in the file by this lookup
abbrev pub in_file : Lookup → ℕ → Option ℕ
in_file lookup address = loaded_at lookup.base lookup.size lookup.is_return lookup.linked address

-- the entry that an address in the file symbolizes to. A return address is that behind a call: its entry is that of the address before it. Where that has
-- none, the address is of a frame that a signal interrupted at its first instruction, and its entry begins there
abbrev pub entry_for : (is_return : Bool) → List Entry → ℕ → Option Entry
entry_for false entries address = entry_at entries address
entry_for true entries address = option_or (entry_at entries (address - 1)) (entry_at entries address)

-- the entry of an address in the file, if it has one, and the offset of the address into it
abbrev pub found_in : List Entry → (is_return : Bool) → Option ℕ → Option (Entry × ℕ)
found_in entries is_return None = None
found_in entries is_return (Some address) = option_map (λ entry. (entry, address - entry.address)) (entry_for is_return entries address)

-- what a lookup finds for an address
abbrev pub found_at : List Entry → Lookup → ℕ → Option (Entry × ℕ)
found_at entries lookup address = found_in entries lookup.is_return (in_file lookup address)

-- the address in the file of an offset behind its name: from the file's origin, or, where offsets in the file are looked up, of the byte there
abbrev pub at_offset : Lookup → (offset : ℕ) → Option ℕ
at_offset lookup offset = if is_some lookup.size then in_file lookup offset else in_64_bits (offset + lookup.origin)
