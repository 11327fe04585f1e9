-- The parts of a Mach-O file that were read.
use Rattle.std.specs.Option.{option_map}
use Rattle.binfarce_macho.specs.MachoSelection.{SelectedTables, sections_view}
use Rattle.binfarce_macho.specs.MachoSymbols.{Symbols}
use Rattle.binfarce_tables.specs.declared.macho.Parts.{Parts}
use Rattle.binfarce_tables.specs.declared.macho.SymbolParts.{SymbolParts}

-- the symbols that were read
abbrev pub symbols_view : SymbolParts → Symbols
symbols_view s = record { strings = s.strings.items; rows = s.rows.items }

-- the content of a file's parts, of which its function symbols are made
abbrev pub parts_view : Parts → SelectedTables
parts_view p = record { sections = sections_view p.sections; symbols = option_map symbols_view p.symbols }
