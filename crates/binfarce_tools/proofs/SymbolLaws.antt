-- Lines and shares of symbols are those of the entries that they are made of.
use Rattle.std.proofs.Common.{◌≡◌, ℕ, List, [], ◌∷◌, ◌++◌, map, sym, ap, subst, ◌∙◌}
use Rattle.std.specs.List.{AllZip, concat}
use Rattle.std.specs.String.{string_bytes}
use Rattle.binfarce.specs.declared.demangle.SymbolData.{SymbolData}
use Rattle.binfarce.specs.Name.{name_view}
use Rattle.binfarce.specs.Symbol.{Entry, Listed, IsSymbolOf, AreSymbolsOf}
use Rattle.binfarce_rows.specs.Columns.{line_head}
use Rattle.binfarce_tools.specs.Listing.{size_line}
use Rattle.binfarce_tools.specs.Report.{IsShareOf, IsReportOfShares, crate_text}
use Rattle.binfarce_tools.specs.SectionAnswer.{IsLineOf, IsListingOf, IsReportOf}
use Rattle.binfarce_tools.specs.machine.Symbols.{symbol_line, symbols_listing, share_of, IsReportOfSymbols}

line_is : (e : Entry) (symbol : SymbolData) → IsSymbolOf e symbol → IsLineOf e (symbol_line symbol)
line_is e symbol is = (
  name_view symbol.name,
  is.name,
  ap (λ (n : ℕ). line_head n symbol.size ++ (string_bytes symbol.name.trimmed ++ 10 ∷ [])) is.address
      ∙ ap (λ (n : ℕ). line_head e.address n ++ (string_bytes symbol.name.trimmed ++ 10 ∷ [])) is.size,
)

lines_are : (entries : List Entry) (symbols : List SymbolData) → AreSymbolsOf entries symbols → AllZip IsLineOf entries (map symbol_line symbols)
lines_are [] [] are = tt
lines_are [] (s ∷ symbols) are = absurd are
lines_are (e ∷ entries) [] are = absurd are
lines_are (e ∷ entries) (s ∷ symbols) are = (line_is e s are.0, lines_are entries symbols are.1)

pub listing_of_symbols : (symbols : List SymbolData) (size : ℕ) (listed : Listed) → AreSymbolsOf listed.entries symbols → listed.section_size ≡ size → IsListingOf listed (symbols_listing symbols size)
listing_of_symbols symbols size listed are is =
    (map symbol_line symbols, lines_are listed.entries symbols are, ap (λ (n : ℕ). concat (map symbol_line symbols) ++ size_line n) (sym is))

shares_are : (entries : List Entry) (symbols : List SymbolData) → AreSymbolsOf entries symbols → AllZip IsShareOf entries (map share_of symbols)
shares_are [] [] are = tt
shares_are [] (s ∷ symbols) are = absurd are
shares_are (e ∷ entries) [] are = absurd are
shares_are (e ∷ entries) (s ∷ symbols) are = ((name_view s.name, are.0.name, ap (λ (n : ℕ). record { name = crate_text (name_view s.name); size = n }) are.0.size), shares_are entries symbols are.1)

pub report_of_symbols : (symbols : List SymbolData) (size : ℕ) (listed : Listed) (text : List ℕ) → AreSymbolsOf listed.entries symbols → listed.section_size ≡ size → IsReportOfSymbols symbols size text → IsReportOf listed text
report_of_symbols symbols size listed text are is report =
    (map share_of symbols, shares_are listed.entries symbols are, subst (λ (n : ℕ). IsReportOfShares (map share_of symbols) (size_line n) text) (sym is) report)
