-- The answer of `symbols`: one symbol for each entry, in order.
use Rattle.std.specs.Prelude.{◌≡◌, ℕ, List}
use Rattle.std.specs.Global.{Vec}
use Rattle.std.specs.List.{AllZip}
use Rattle.binfarce_names.specs.declared.demangle.SymbolData.{SymbolData}
use Rattle.binfarce_names.specs.Name.{name_view}
use Rattle.binfarce_names.specs.Named.{IsNamed}
pub use Rattle.binfarce_bytes.specs.Entries.{Entry, Listed, ListsSome, Answers}

-- the symbol has the entry's address and size, and its name is the answer of the entry's name
pub record IsSymbolOf (entry : Entry) (symbol : SymbolData) : Type 0 where
  pub name : IsNamed entry.name (name_view symbol.name)
  pub address : symbol.address ≡ entry.address
  pub size : symbol.size ≡ entry.size

-- one symbol for each entry, in order, and no other
abbrev pub AreSymbolsOf : List Entry → List SymbolData → Type 0
AreSymbolsOf entries symbols = AllZip IsSymbolOf entries symbols

-- the value has the symbols of these entries, and the size
abbrev pub HoldsSymbols : Listed → Vec SymbolData × ℕ → Type 0
HoldsSymbols listed answer = AreSymbolsOf listed.entries answer.0.items × (answer.1 ≡ listed.section_size)
