-- The function symbols of a PE file (Microsoft PE Format, "COFF Symbol Table"), with sizes that their addresses give.
use Rattle.std.specs.Prelude.{◌≡◌, ℕ, zero, suc, ◌+◌, ◌-◌, ◌*◌, ◌/◌, Bool, ◌&&◌, List, [], ◌∷◌, length, drop, codes, Option, None, Result, Ok, Err, nat_eq, nat_lt, nat_le, unwrap_or, if◌then◌else◌}
use Rattle.std.specs.Option.{option_map}
use Rattle.std.specs.List.{filter_map}
use Rattle.binfarce_bytes.specs.Number.{bytes_at}
use Rattle.binfarce_bytes.specs.Text.{text_at, padded_text}
use Rattle.binfarce_bytes.specs.Refusal.{◌>>=◌, Refusal, required, symbols_section_is_missing, unexpected_eof, if_as_long_as}
use Rattle.binfarce_bytes.specs.Walk.{first}
use Rattle.binfarce_bytes.specs.Field.{Field, field, number_in}
use Rattle.binfarce_pe.specs.Pe.{header_of, least_length, Section, walk, is_named}
use Rattle.binfarce_bytes.specs.Sizes.{RowAddress, arranged, addresses_of, least_above, ListsArranged}
use Rattle.binfarce_bytes.specs.Entries.{Entry, Listed}

-- Standard Symbol Definition: one A for each number. The first 8 bytes are the short name or, where the first four are zeroes, the other four an offset in the string table
pub record SymbolRow (A : Type 0) : Type 0 where
  pub zeroes : A
  pub offset : A
  pub value : A
  pub section_number : A
  pub kind : A
  pub storage_class : A
  pub number_of_aux_symbols : A

unfoldable pub symbol_fields : SymbolRow Field
symbol_fields = record {
  zeroes = field 0 4;
  offset = field 4 4;
  value = field 8 4;
  section_number = field 12 2;
  kind = field 14 2;
  storage_class = field 16 1;
  number_of_aux_symbols = field 17 1;
}

-- the numbers of the record that begins at start
unfoldable pub symbol_at : List ℕ → ℕ → SymbolRow ℕ
symbol_at file start = record {
  zeroes = number_in file start symbol_fields.zeroes;
  offset = number_in file start symbol_fields.offset;
  value = number_in file start symbol_fields.value;
  section_number = number_in file start symbol_fields.section_number;
  kind = number_in file start symbol_fields.kind;
  storage_class = number_in file start symbol_fields.storage_class;
  number_of_aux_symbols = number_in file start symbol_fields.number_of_aux_symbols;
}

-- a symbol record has 18 bytes
abbrev pub symbol_length : ℕ
symbol_length = 18

-- a symbol table: its records, and the file from the string table on, which comes after them
pub record CoffTable : Type 0 where
  pub rows : List ℕ
  pub strings : List ℕ

abbrev pub record_count : CoffTable → ℕ
record_count table = length table.rows / symbol_length

-- record k of the table
abbrev pub symbol_of : CoffTable → ℕ → SymbolRow ℕ
symbol_of table k = symbol_at table.rows (k * symbol_length)

-- the rows' numbers from k on, in at most n steps: a row is followed by its auxiliary records, and then by the next row
unfoldable pub rows_from : CoffTable → ℕ → ℕ → List ℕ
rows_from table zero k = []
rows_from table (suc n) k =
    if nat_lt k (record_count table) then k ∷ rows_from table n (k + 1 + (symbol_of table k).number_of_aux_symbols) else []

-- the numbers of the rows: the first record is one, and no more steps are needed than there are records
abbrev pub row_numbers : CoffTable → List ℕ
row_numbers table = rows_from table (record_count table) 0

-- the name of row k, with this record, where it can be read: the short name in its 8 bytes, or the text in the string table at its offset
unfoldable pub name_of : CoffTable → ℕ → SymbolRow ℕ → Option (List ℕ)
name_of table k row =
    if nat_eq row.zeroes 0 then text_at table.strings row.offset
    else padded_text (bytes_at table.rows (k * symbol_length) 8)

-- a function: the complex type, from bit 4 of the type on, is 2
abbrev pub is_function : SymbolRow ℕ → Bool
is_function row = nat_eq (row.kind / 16) 2

-- one that is external (class 2), in the section of this index; the file numbers sections from 1 on
abbrev pub is_function_of : ℕ → SymbolRow ℕ → Bool
is_function_of index row = is_function row && nat_eq row.storage_class 2 && nat_eq row.section_number (index + 1)

-- the name of row k, if the row is kept: it is an external function of the section, and its name can be read
unfoldable pub function_name : CoffTable → ℕ → ℕ → Option (List ℕ)
function_name table index k = if is_function_of index (symbol_of table k) then name_of table k (symbol_of table k) else None

-- the address and the number of row k, if it is kept
abbrev pub kept_row : CoffTable → ℕ → ℕ → Option RowAddress
kept_row table index k = option_map (λ _. record { address = (symbol_of table k).value; row = k }) (function_name table index k)

-- the kept rows, in table order
unfoldable pub kept_rows : CoffTable → ℕ → List RowAddress
kept_rows table index = filter_map (kept_row table index) (row_numbers table)

-- the size at an address: up to the least member above it, and 0 if there is none
abbrev pub size_among : List ℕ → ℕ → ℕ
size_among members address = unwrap_or (option_map (λ above. above - address) (least_above members address)) 0

-- the entry of a kept row: its name, its address, and the size at that address
abbrev pub entry_of : CoffTable → ℕ → List ℕ → RowAddress → Option Entry
entry_of table index members kept =
    option_map (λ name. record { name = name; address = kept.address; size = size_among members kept.address }) (function_name table index kept.row)

-- the entries of kept rows in this order. A size ends at the addresses of all kept rows and at the text's size in the file
abbrev pub entries_in : CoffTable → (index text_size : ℕ) → List RowAddress → List Entry
entries_in table index text_size in_order = filter_map (entry_of table index (text_size ∷ addresses_of (kept_rows table index))) in_order

-- the entries of the kept rows, in the order of (address, row number)
unfoldable pub entries_of : CoffTable → (index text_size : ℕ) → List Entry
entries_of table index text_size = entries_in table index text_size (arranged (kept_rows table index))

-- the text: the first section `.text`
abbrev pub text_section : List ℕ → Result Section Refusal
text_section file = first (λ section. is_named (codes ".text") section) (walk file) >>= required symbols_section_is_missing

-- where the symbol table begins, and how many bytes its records have
abbrev pub table_offset : List ℕ → ℕ
table_offset file = (header_of file).pointer_to_symbol_table

abbrev pub table_size : List ℕ → ℕ
table_size file = (header_of file).number_of_symbols * symbol_length

-- the symbol table, which has to begin in the file even where it is empty, and to end there
unfoldable pub symbol_table : List ℕ → Result CoffTable Refusal
symbol_table file =
    if nat_le (length file) (table_offset file) then Err unexpected_eof
    else if_as_long_as (table_offset file + table_size file) file (Ok (record { rows = bytes_at file (table_offset file) (table_size file); strings = drop (table_offset file + table_size file) file }))

-- the refusals in order; else the entries, and the size of the text in the file
unfoldable pub pe_answer : List ℕ → Result Listed Refusal
pe_answer file = do
  text ← text_section file
  table ← symbol_table file
  Ok (record { entries = entries_of table text.index text.size_of_raw_data; section_size = text.size_of_raw_data })

-- that of a file that has a header
abbrev pub pe_file_answer : List ℕ → Result Listed Refusal
pe_file_answer file = if_as_long_as (least_length file) file (pe_answer file)

-- a law of `pe_answer`: its entries are those of the kept rows, arranged so that (address, row number) rises strictly
abbrev pub ArrangesRows : List ℕ → Type 0
ArrangesRows file = (text : Section) (table : CoffTable) (listed : Listed) → text_section file ≡ Ok text → symbol_table file ≡ Ok table → pe_answer file ≡ Ok listed
    → ListsArranged (kept_rows table text.index) (λ in_order entries. entries ≡ entries_in table text.index text.size_of_raw_data in_order) listed.entries
