-- The line by which Linux reports a fault of a program (print_vma_addr): `.. ip ADDRESS .. in NAME[PLACE,START+SIZE]` has the name of the file, the offset in
-- it of what is at the address, and the mapping. In older kernels it is `NAME[START+SIZE]`. Some faults have `ip:ADDRESS`.
use Rattle.std.specs.Prelude.{ℕ, ◌-◌, ◌&&◌, true, false, List, [], ◌∷◌, codes, length, drop, nat_eq, nat_le, Option, Some, None, if◌then◌else◌}
use Rattle.std.specs.List.{after_first, before_first, list_any, starts_with}
use Rattle.std.specs.Option.{option_and_then, option_map}
use Rattle.binfarce_rows.specs.Address.{hexadecimal}
use Rattle.binfarce_logs.specs.declared.maps.Mapping.{Mapping}

-- the text behind the first place where these bytes are; none where they aren't
abbrev pub behind_mark : (mark text : List ℕ) → Option (List ℕ)
behind_mark mark [] = None
behind_mark mark (b ∷ text) = if starts_with nat_eq (b ∷ text) mark then Some (drop (length mark) (b ∷ text)) else behind_mark mark text

-- a mapping of code of which the file's offset isn't known
abbrev pub unplaced : (start size : ℕ) → Mapping
unplaced start size = record { start = start; size = size; offset = 0; has_offset = false; is_code = true }

-- a mapping of code in which the address is, that has this offset in the file
abbrev pub placed_by : (address place start size : ℕ) → Option Mapping
placed_by address place start size = if nat_le start address && nat_le (address - start) place then Some (record {
  start = start;
  size = size;
  offset = place - (address - start);
  has_offset = true;
  is_code = true;
}) else None

-- the mapping of so many bytes at start, in which the address is that has this offset in the file, if these are known
abbrev pub made_of : (known : Option (ℕ × ℕ)) → (start size : ℕ) → Option Mapping
made_of None start size = Some (unplaced start size)
made_of (Some (address, place)) start size = placed_by address place start size

-- the mapping of a range `START+SIZE`
abbrev pub in_range : (known : Option (ℕ × ℕ)) → (range : List ℕ) → Option Mapping
in_range known range = option_and_then (λ start. option_and_then (made_of known start) (hexadecimal (after_first (nat_eq 43) range))) (hexadecimal (before_first (nat_eq 43) range))

-- the mapping of `PLACE,START+SIZE`, or of `START+SIZE`
abbrev pub in_brackets : (address : ℕ) → (text : List ℕ) → Option Mapping
in_brackets address text =
    if list_any (nat_eq 44) text then option_and_then (λ place. in_range (Some (address, place)) (after_first (nat_eq 44) text)) (hexadecimal (before_first (nat_eq 44) text))
    else in_range None text

-- the mapping of `NAME[..]`, and the name
abbrev pub named_fault : (address : ℕ) → (text : List ℕ) → Option (Mapping × List ℕ)
named_fault address text = option_map (λ mapping. (mapping, before_first (nat_eq 91) text)) (in_brackets address (before_first (nat_eq 93) (after_first (nat_eq 91) text)))

-- so behind ` in `, of a text that begins with the address
abbrev pub fault_behind : (text : List ℕ) → Option (Mapping × List ℕ)
fault_behind text = option_and_then (λ address. option_and_then (named_fault address) (behind_mark (codes " in ") text)) (hexadecimal (before_first (nat_eq 32) text))

-- what is behind the mark of the address: the word `ip`, or if a line has none, ` ip:`. Other words may begin so, as a host's name or a program's
abbrev pub behind_ip : (word line : Option (List ℕ)) → Option (List ℕ)
behind_ip (Some text) line = Some text
behind_ip None line = line

-- what the line of a fault says: the mapping of the code, and the name of its file
abbrev pub fault_in : (line : List ℕ) → Option (Mapping × List ℕ)
fault_in line = option_and_then fault_behind (behind_ip (behind_mark (codes " ip ") line) (behind_mark (codes " ip:") line))
