-- The views of a function symbol that clauses use.
use Rattle.std.specs.Prelude.{◌≡◌, ℕ, List, map, Option}
use Rattle.std.specs.Global.{Vec}
use Rattle.binfarce_bytes.specs.declared.functions.FunctionSymbol.{FunctionSymbol}
use Rattle.binfarce_bytes.specs.declared.functions.SectionFunction.{SectionFunction}
use Rattle.binfarce_bytes.specs.Entries.{Entry, Listed}
use Rattle.binfarce_bytes.specs.SectionEntries.{SectionEntry, SelectedSymbols}

-- a `FunctionSymbol`
abbrev pub function_view : FunctionSymbol → Entry
function_view f = record { name = f.name.now; address = f.address; size = f.size }

-- the value has these entries as function symbols, and the size
abbrev pub HoldsFunctions : Listed → Vec FunctionSymbol × ℕ → Type 0
HoldsFunctions listed answer = (map function_view answer.0.items ≡ listed.entries) × (answer.1 ≡ listed.section_size)

-- a `SectionFunction`
abbrev pub section_function_view : SectionFunction → SectionEntry
section_function_view f = record { section = f.section; info = f.info; version = f.version; entry = function_view f.function }

-- the value has these entries as function symbols with their sections
abbrev pub HoldsSectionFunctions : List SectionEntry → Vec SectionFunction → Type 0
HoldsSectionFunctions entries functions = map section_function_view functions.items ≡ entries

-- the value has the selected entries as function symbols with their sections
abbrev pub HoldsSelected : SelectedSymbols → Vec SectionFunction → Type 0
HoldsSelected selected functions = HoldsSectionFunctions selected.entries functions

-- and the size of the selected section
abbrev pub HoldsSized : SelectedSymbols → Vec SectionFunction × Option ℕ → Type 0
HoldsSized selected answer = HoldsSelected selected answer.0 × (answer.1 ≡ selected.section_size)
