-- Listings and reports of symbols, for the laws.
use Rattle.std.specs.Prelude.{ℕ, List, [], ◌∷◌, ◌++◌, map}
use Rattle.std.specs.List.{concat}
use Rattle.std.specs.String.{string_bytes}
use Rattle.binfarce.specs.declared.demangle.SymbolData.{SymbolData}
use Rattle.binfarce.specs.Name.{name_view}
use Rattle.binfarce_rows.specs.Columns.{line_head}
use Rattle.binfarce_tools.specs.Listing.{size_line}
use Rattle.binfarce_tools.specs.Report.{Share, IsReportOfShares, crate_text}

-- the line of a symbol
abbrev pub symbol_line : SymbolData → List ℕ
symbol_line symbol = line_head symbol.address symbol.size ++ (string_bytes symbol.name.trimmed ++ 10 ∷ [])

-- the lines of symbols in order, and then that of their section's size
abbrev pub symbols_listing : List SymbolData → ℕ → List ℕ
symbols_listing symbols size = concat (map symbol_line symbols) ++ size_line size

-- the share that a symbol adds to a report
abbrev pub share_of : SymbolData → Share
share_of symbol = record { name = crate_text (name_view symbol.name); size = symbol.size }

-- text is the report of the shares of symbols
abbrev pub IsReportOfSymbols : List SymbolData → ℕ → List ℕ → Type 0
IsReportOfSymbols symbols size text = IsReportOfShares (map share_of symbols) (size_line size) text
