-- Places: function symbols, the spans of their ranges, and readable names that are kept.
use Rattle.std.specs.Prelude.{◌≡◌, ℕ, ◌-◌, ◌<◌, ◌≤◌, List, map, drop, take, length, slice_index_or, Option, Some, None, MatchOption}
use Rattle.binfarce.specs.Symbol.{Entry}
use Rattle.binfarce.specs.SymbolViews.{function_view}
use Rattle.binfarce.specs.declared.FunctionSymbol.{FunctionSymbol}
use Rattle.binfarce_addresses.specs.Places.{IsAtPlace, IsNamedAt, IsShownAt}
use Rattle.binfarce_addresses.specs.declared.lookup.Lookup.{Lookup}
use Rattle.binfarce_addresses.specs.declared.ranges.AddressRange.{AddressRange}
use Rattle.binfarce_addresses.specs.declared.ranges.Span.{Span}
use Rattle.binfarce_addresses.specs.Range.{AreSpansOf}

abbrev pub range_of : Entry → AddressRange
range_of entry = record { address = entry.address; size = entry.size }

abbrev pub ranges_of : List FunctionSymbol → List AddressRange
ranges_of functions = map (λ f. range_of (function_view f)) functions

-- the symbol is the name and the offset of what is found
abbrev pub IsSymbolAt : List Entry → Option (ℕ × ℕ) → Option (List ℕ × ℕ) → Type 0
IsSymbolAt entries None symbol = symbol ≡ None
IsSymbolAt entries (Some found) symbol = (name : List ℕ) × IsNamedAt entries found.0 name × (symbol ≡ Some (name, found.1))

-- each part of the text that is kept for a place, and isn't empty, is the readable name of the entry there
abbrev pub AreKept : (entries : List Entry) (text : List ℕ) (kept : List (ℕ × ℕ)) → Type 0
AreKept entries text kept =
    (place from to : ℕ) → Path (ℕ × ℕ) (slice_index_or kept place (0, 0)) (from, to) → from < to → (to ≤ length text) × IsNamedAt entries place (take (to - from) (drop from text))

pub record ArePlacesOf (functions : List FunctionSymbol) (spans : List Span) : Type 0 where
  pub are : AreSpansOf (ranges_of functions) spans

-- this place has the entry, or there is none
abbrev pub IsPlaceFor : List Entry → Option Entry → Option ℕ → Type 0
IsPlaceFor entries entry place = MatchOption place (entry ≡ None) (λ p. (e : Entry) × (entry ≡ Some e) × IsAtPlace entries p e)

-- this is found for a line with the address, or with none
abbrev pub IsFoundFor : List Entry → Lookup → Option ℕ → Option (ℕ × ℕ) → Type 0
IsFoundFor entries lookup address found = MatchOption address (found ≡ None) (λ a. IsShownAt entries lookup a found)
