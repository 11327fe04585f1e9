-- The lines of addresses, or their objects.
use Rattle.std.specs.Prelude.{◌≡◌, ℕ, List, [], ◌∷◌, ◌++◌, codes, false, Option, Some, None, Result, Ok, Err}
use Rattle.std.specs.Fmt.{digits}
use Rattle.std.specs.List.{AllZip, concat}
use Rattle.binfarce.specs.Named.{IsShown}
use Rattle.binfarce.specs.SectionEntries.{SelectedSymbols}
use Rattle.binfarce.specs.Symbol.{Entry}
use Rattle.binfarce_rows.specs.Json as json
use Rattle.binfarce_rows.specs.Json.{Style, style_of, address_member, number_member, object_start, text_member}
use Rattle.binfarce_tools.specs.ListWords as list
use Rattle.binfarce_rows.specs.Columns.{address_text}
use Rattle.binfarce_tools.specs.Writing.{Outcome, written}
use Rattle.binfarce_tools.specs.declared.list.ListError.{ListError}
use Rattle.binfarce_addresses.specs.declared.counts.Counts.{Counts}
use Rattle.binfarce_addresses.specs.Lookup.{found_at, places_in}
use Rattle.binfarce_addresses.specs.declared.lookup.Lookup.{Lookup}

-- `{name}+0x{offset:x}`, with the answer of the entry's name and the offset into the entry
abbrev pub IsPlaceOf : Entry → (offset : ℕ) → List ℕ → Type 0
IsPlaceOf entry offset text = (name : List ℕ) × IsShown entry.name name × (text ≡ name ++ (codes "+0x" ++ digits 16 false offset))

-- the text for what is found: an entry and an offset, or `??`
abbrev pub IsTextOf : Option (Entry × ℕ) → List ℕ → Type 0
IsTextOf None text = text ≡ codes "??"
IsTextOf (Some (entry, offset)) text = IsPlaceOf entry offset text

-- `{address:016x} {text}`, and a line feed: the address as it was given, and its symbol
abbrev pub address_line : ℕ → List ℕ → List ℕ
address_line address text = address_text address ++ (codes " " ++ (text ++ 10 ∷ []))

-- the member `address` of an object: the address as it was given, or null
abbrev pub address_value : Option ℕ → List ℕ
address_value None = text_member (codes "address") None
address_value (Some address) = address_member address

-- the members `name` and `offset`: those of the symbol, or null
abbrev pub symbol_members : Option (List ℕ × ℕ) → List ℕ
symbol_members None = text_member (codes "name") None ++ text_member (codes "offset") None
symbol_members (Some (name, offset)) = text_member (codes "name") (Some name) ++ number_member (codes "offset") offset

-- an answer as an object: its file, the address, the symbol's name and the offset into it
abbrev pub answer_object : (file : List ℕ) → (address : Option ℕ) → (symbol : Option (List ℕ × ℕ)) → List ℕ
answer_object file address symbol = concat (object_start file ∷ address_value address ∷ symbol_members symbol ∷ codes "}\n" ∷ [])

-- the symbol for what is found: the answer of the entry's name, and the offset; or none
abbrev pub IsSymbolOf : Option (Entry × ℕ) → Option (List ℕ × ℕ) → Type 0
IsSymbolOf None symbol = symbol ≡ None
IsSymbolOf (Some (entry, offset)) symbol = (name : List ℕ) × IsShown entry.name name × (symbol ≡ Some (name, offset))

-- line is that of the address in this style: the address as it was given, and what is found at it
abbrev pub IsLineIn : Style → List Entry → Lookup → ℕ → List ℕ → Type 0
IsLineIn json.lines entries lookup address line =
    (text : List ℕ) × IsTextOf (found_at entries lookup address) text × (line ≡ address_line address text)
IsLineIn (json.objects file section) entries lookup address line =
    (symbol : Option (List ℕ × ℕ)) × IsSymbolOf (found_at entries lookup address) symbol × (line ≡ answer_object file (Some address) symbol)

-- the same in the style of the lookup
abbrev pub IsLineAt : List Entry → Lookup → ℕ → List ℕ → Type 0
IsLineAt entries lookup address line = IsLineIn (style_of lookup.form) entries lookup address line

-- text is the lines of the addresses, in their order
abbrev pub AreLinesOf : List Entry → Lookup → List ℕ → List ℕ → Type 0
AreLinesOf entries lookup addresses text = (lines : List (List ℕ)) × AllZip (IsLineAt entries lookup) addresses lines × (text ≡ concat lines)

-- how a call ended that returns counts
abbrev pub outcome_of : Result Counts ListError → Outcome
outcome_of (Ok counts) = written
outcome_of (Err e) = list.outcome_of (Err e)

-- the same for the places of a file's entries
abbrev pub AreLinesAt : Lookup → List ℕ → SelectedSymbols → List ℕ → Type 0
AreLinesAt lookup addresses selected text = AreLinesOf (places_in selected) lookup addresses text
