-- Views of the values that a PE file is read into, for private clauses.
use Rattle.std.specs.Borrow.{Bor}
use Rattle.std.specs.Prelude.{◌≡◌, ℕ, ◌+◌, ◌-◌, ◌<◌, ◌≤◌, Bool, List, [], ◌∷◌, map, Option, Some, None, min, get_or, if◌then◌else◌}
use Rattle.std.specs.Option.{option_map}
use Rattle.std.specs.List.{AllZip, range_with_len, filter_map}
use Rattle.binfarce_bytes.specs.Walk.{Walk, ended}
use Rattle.binfarce_pe.specs.declared.symbols.SymbolRow.{SymbolRow}
use Rattle.binfarce_pe.specs.declared.functions.Held.{Held}
use Rattle.binfarce_pe.specs.Pe as pe
use Rattle.binfarce_pe.specs.PeParts.{SectionTable, whole_in, section_in, table_walk}
use Rattle.binfarce_pe.specs.PeSymbols as symbols
use Rattle.binfarce_pe.specs.PeRules.{SectionRules, accepted_name, ends_at, ending_rows}
use Rattle.binfarce_pe.specs.PeSelection.{SelectedSections, the_text, in_memory, Rules, memory_size}
use Rattle.binfarce_bytes.specs.Sizes.{RowAddress, addresses_of}
use Rattle.binfarce_bytes.specs.SectionEntries.{SectionEntry}
use Rattle.binfarce_bytes.specs.RowViews.{rows_view}

abbrev pub symbol_view : SymbolRow → symbols.SymbolRow ℕ
symbol_view r = record { zeroes = r.zeroes; offset = r.offset; value = r.value; section_number = r.section_number; kind = r.kind; storage_class = r.storage_class; number_of_aux_symbols = r.number_of_aux_symbols }

-- how many section headers there are
abbrev pub header_count : SectionTable → ℕ
header_count table = min table.count (whole_in table)

-- the walk from the section header of this index on; after a refusal nothing is left
abbrev pub walk_from : SectionTable → Option ℕ → Walk pe.Section
walk_from table None = ended None
walk_from table (Some k) = record {
  items = filter_map (section_in table) (range_with_len k (header_count table - k));
  refusal = (table_walk table).refusal;
}

-- rows of these addresses, numbered from n on
abbrev pub numbered : ℕ → List ℕ → List RowAddress
numbered n [] = []
numbered n (address ∷ addresses) = record { address = address; row = n } ∷ numbered (n + 1) addresses

-- this is the name of a row that is kept, and none for another row
abbrev pub IsNameOf : symbols.CoffTable → (symbols.SymbolRow ℕ → Bool) → RowAddress → Option (List ℕ) → Type 0
IsNameOf table accepts r name = accepted_name table accepts r.row (symbols.symbol_of table r.row) ≡ name

-- the rows that are held have the addresses of these and are numbered in their order, and the names are theirs
pub record HoldsThese (table : symbols.CoffTable) (accepts : symbols.SymbolRow ℕ → Bool) (these rows : List RowAddress) (names : List (Option (List ℕ))) : Type 0 where
  pub rows_are : rows ≡ numbered 0 (addresses_of these)
  pub names_are : AllZip (IsNameOf table accepts) these names

-- the names that are held
abbrev pub names_view : List (Option (Bor (List ℕ))) → List (Option (List ℕ))
names_view names = map (option_map (λ t. t.now)) names

-- the rows that end sizes are held
abbrev pub HoldsRows : symbols.CoffTable → SectionRules → Held → Type 0
HoldsRows table rules h = HoldsThese table rules.accepts (ending_rows table rules) (rows_view h.rows.items) (names_view h.names.items)

-- the rows that are held of the section at this position, and their names; none past the end
abbrev pub rows_at : List Held → ℕ → List RowAddress
rows_at held i = get_or (map (λ h. rows_view h.rows.items) held) i []

abbrev pub names_at : List Held → ℕ → List (Option (List ℕ))
names_at held i = get_or (map (λ h. names_view h.names.items) held) i []

-- of each selected section from this position on the rows that end sizes are held
abbrev pub HoldsSections : symbols.CoffTable → Rules → ℕ → List Held → Type 0
HoldsSections table rules from held =
    (i : ℕ) → from ≤ i → i < rules.count → HoldsThese table (rules.section (rules.first + i)).accepts (ending_rows table (rules.section (rules.first + i))) (rows_at held i) (names_at held i)

-- the name of a row that ends sizes, and none of it where it isn't kept
abbrev pub ending_name : symbols.CoffTable → SectionRules → ℕ → symbols.SymbolRow ℕ → Option (Option (List ℕ))
ending_name table rules k row =
    if ends_at table rules k row then Some (accepted_name table rules.accepts k row) else option_map (λ name. Some name) (accepted_name table rules.accepts k row)

-- the size that sizes end at in the section of this index
abbrev pub bound_of : SelectedSections → ℕ → ℕ
bound_of (the_text text) index = text.size
bound_of (in_memory base sections code) index = memory_size sections index

-- the entry of a row whose name has its number, in the section of this index, by the addresses that end sizes; none of a row without a name
abbrev pub function_in : Rules → ℕ → List (Option (List ℕ)) → List ℕ → RowAddress → Option SectionEntry
function_in rules index names addresses r =
    option_map (λ name. record { section = index + 1; info = 0; version = 0; entry = record { name = name; address = rules.address index r.address; size = (rules.section index).size addresses r.address } })
    (get_or names r.row None)
