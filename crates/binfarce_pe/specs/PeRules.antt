-- How the function symbols of one section are listed by the rules of a selection, of which the text's are one case.
use Rattle.std.specs.Prelude.{ℕ, Bool, false, List, ◌∷◌, Option, Some, None, if◌then◌else◌}
use Rattle.std.specs.Option.{option_map}
use Rattle.std.specs.List.{filter_map}
use Rattle.binfarce_bytes.specs.Entries.{Entry}
use Rattle.binfarce_bytes.specs.Sizes.{RowAddress, arranged, addresses_of}
use Rattle.binfarce_pe.specs.PeSymbols.{SymbolRow, CoffTable, symbol_of, row_numbers, name_of, is_function_of, size_among}

-- the rules of a section: which rows are kept if their names can be read; which end sizes even if they aren't kept, by the row and its name, where it can be
-- read; and the size at an address, by the addresses of all rows that end sizes
pub record SectionRules : Type 0 where
  pub accepts : SymbolRow ℕ → Bool
  pub ends : SymbolRow ℕ → Option (List ℕ) → Bool
  pub size : List ℕ → ℕ → ℕ

-- the rules of a text of this index and size in the file: those of `pe_answer`
abbrev pub text_rules : ℕ → ℕ → SectionRules
text_rules index text_size = record { accepts = is_function_of index; ends = λ row name. false; size = λ addresses. size_among (text_size ∷ addresses) }

-- the name of row k, with this record, if the row is accepted
unfoldable pub accepted_name : CoffTable → (SymbolRow ℕ → Bool) → ℕ → SymbolRow ℕ → Option (List ℕ)
accepted_name table accepts k row = if accepts row then name_of table k row else None

-- the address and the number of row k, if it is kept: it is accepted, and its name can be read
abbrev pub accepted_row : CoffTable → (SymbolRow ℕ → Bool) → ℕ → Option RowAddress
accepted_row table accepts k = option_map (λ _. record { address = (symbol_of table k).value; row = k }) (accepted_name table accepts k (symbol_of table k))

-- row k, with this record, ends sizes even if it isn't kept
abbrev pub ends_at : CoffTable → SectionRules → ℕ → SymbolRow ℕ → Bool
ends_at table rules k row = rules.ends row (name_of table k row)

-- the address and the number of row k, if it ends sizes: a row that is kept, or another
abbrev pub ending_row : CoffTable → SectionRules → ℕ → Option RowAddress
ending_row table rules k =
    if ends_at table rules k (symbol_of table k) then Some (record { address = (symbol_of table k).value; row = k }) else accepted_row table rules.accepts k

-- the rows that end sizes, in table order
unfoldable pub ending_rows : CoffTable → SectionRules → List RowAddress
ending_rows table rules = filter_map (ending_row table rules) (row_numbers table)

-- the entry of such a row, if it is kept, by the addresses of all of them
abbrev pub entry_under : CoffTable → SectionRules → List ℕ → RowAddress → Option Entry
entry_under table rules addresses at =
    option_map (λ name. record { name = name; address = at.address; size = rules.size addresses at.address }) (accepted_name table rules.accepts at.row (symbol_of table at.row))

-- the entries of the kept rows, in the order of (address, row number)
unfoldable pub entries_under : CoffTable → SectionRules → List Entry
entries_under table rules = filter_map (entry_under table rules (addresses_of (ending_rows table rules))) (arranged (ending_rows table rules))
