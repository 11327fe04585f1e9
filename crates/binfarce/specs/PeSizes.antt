-- A law of the sizes in PE files.
use Rattle.std.specs.Prelude.{◌≡◌, List, Contains}
use Rattle.binfarce_names.specs.declared.demangle.SymbolData.{SymbolData}

-- symbols of equal address have equal sizes
abbrev pub EqualAddressesEqualSizes : List SymbolData → Type 0
EqualAddressesEqualSizes symbols = (s t : SymbolData) → Contains symbols s → Contains symbols t → s.address ≡ t.address → s.size ≡ t.size
