-- The function symbols of a Mach-O file (Apple's <mach-o/nlist.h>), with sizes that the table's addresses give.
use Rattle.std.specs.Prelude.{◌≡◌, ◌≢◌, ℕ, ◌+◌, ◌-◌, ◌*◌, ◌/◌, ◌^◌, Bool, ◌&&◌, List, [], ◌∷◌, length, codes, Option, Some, None, Result, Ok, Err, nat_eq, nat_le, nat_lt, not, bit_and, if◌then◌else◌, ◌<◌, ◌≤◌, All}
use Rattle.std.specs.List.{range_with_len, filter_map, cons_option}
use Rattle.binfarce_bytes.specs.Number.{bytes_at}
use Rattle.binfarce_bytes.specs.Text.{text_at}
use Rattle.binfarce_bytes.specs.Refusal.{◌>>=◌, Refusal, required, symbols_section_is_missing, malformed_input, unexpected_eof, if_as_long_as}
use Rattle.binfarce_bytes.specs.Walk.{first}
use Rattle.binfarce_bytes.specs.Field.{Field, field, number_in}
use Rattle.binfarce_macho.specs.Macho.{Command, least_length, body_of, commands, Section, walk, is_named}
use Rattle.binfarce_bytes.specs.Sizes.{RowAddress, arranged, addresses_of, least_above, ListsArranged}
use Rattle.binfarce_bytes.specs.Entries.{Entry, Listed}

-- symtab_command, in its body of 16 bytes: one A for each field
pub record SymtabCommand (A : Type 0) : Type 0 where
  pub symbol_offset : A
  pub row_count : A
  pub strings_offset : A
  pub strings_size : A

unfoldable pub symbol_table_fields : SymtabCommand Field
symbol_table_fields = record {
  symbol_offset = field 0 4;
  row_count = field 4 4;
  strings_offset = field 8 4;
  strings_size = field 12 4;
}

abbrev pub symbol_table_length : ℕ
symbol_table_length = 16

unfoldable pub symbol_table_at : List ℕ → ℕ → SymtabCommand ℕ
symbol_table_at file body = record {
  symbol_offset = number_in file body symbol_table_fields.symbol_offset;
  row_count = number_in file body symbol_table_fields.row_count;
  strings_offset = number_in file body symbol_table_fields.strings_offset;
  strings_size = number_in file body symbol_table_fields.strings_size;
}

-- nlist_64, of 16 bytes: one A for each field that is read
pub record SymbolRow (A : Type 0) : Type 0 where
  pub name : A
  pub kind : A
  pub section : A
  pub value : A

unfoldable pub symbol_fields : SymbolRow Field
symbol_fields = record {
  name = field 0 4;
  kind = field 4 1;
  section = field 5 1;
  value = field 8 8;
}

abbrev pub symbol_length : ℕ
symbol_length = 16

-- the row that begins at start
unfoldable pub symbol_at : List ℕ → ℕ → SymbolRow ℕ
symbol_at rows start = record {
  name = number_in rows start symbol_fields.name;
  kind = number_in rows start symbol_fields.kind;
  section = number_in rows start symbol_fields.section;
  value = number_in rows start symbol_fields.value;
}

-- row k of a table's rows
abbrev pub symbol_of : List ℕ → ℕ → SymbolRow ℕ
symbol_of rows k = symbol_at rows (k * symbol_length)

-- bytes that lie in the file
abbrev pub slice_at : List ℕ → ℕ → ℕ → Result (List ℕ) Refusal
slice_at file offset size = if nat_le (offset + size) (length file) then Ok (bytes_at file offset size) else Err unexpected_eof

-- the text: the first section `__text` of `__TEXT`
abbrev pub text_section : List ℕ → Result Section Refusal
text_section file = first (λ section. is_named (codes "__TEXT") (codes "__text") section) (walk file) >>= required symbols_section_is_missing

abbrev pub some_size : Section → Result Section Refusal
some_size section = if nat_eq section.size 0 then Err malformed_input else Ok section

-- where a section is in memory: its address, and its size in bytes
pub record Extent : Type 0 where
  pub address : ℕ
  pub size : ℕ

-- where the text is; it isn't empty
abbrev pub text_extent : List ℕ → Result Extent Refusal
text_extent file = do
  found ← text_section file
  text ← some_size found
  Ok (record { address = text.address; size = text.size })

-- LC_SYMTAB: the first such command, or none; a bad command before it is refused
abbrev pub symbol_command : List ℕ → Result (Option Command) Refusal
symbol_command file = first (λ command. nat_eq command.kind 2) (commands file)

-- the body of that command, whole
abbrev pub whole_table : List ℕ → Command → Result (SymtabCommand ℕ) Refusal
whole_table file command =
    if nat_le (body_of command + symbol_table_length) (length file) then Ok (symbol_table_at file (body_of command)) else Err unexpected_eof

abbrev pub named_table : List ℕ → Option Command → Result (Option (SymtabCommand ℕ)) Refusal
named_table file None = Ok None
named_table file (Some command) = whole_table file command >>= λ table. Ok (Some table)

-- what the command of the symbol table names, if there is one
abbrev pub table_of : List ℕ → Result (Option (SymtabCommand ℕ)) Refusal
table_of file = symbol_command file >>= named_table file

-- the string table, and the rows of the symbol table, of which none is truncated
pub record Symbols : Type 0 where
  pub strings : List ℕ
  pub rows : List ℕ

-- the tables that the symbol table's command names, which have to lie in the file; None if there is no such command
abbrev pub symbols_by : List ℕ → Option (SymtabCommand ℕ) → Result (Option Symbols) Refusal
symbols_by file None = Ok None
symbols_by file (Some table) = do
  strings ← slice_at file table.strings_offset table.strings_size
  rows ← slice_at file table.symbol_offset (symbol_length * table.row_count)
  Ok (Some (record { strings = strings; rows = rows }))

-- where the text ends: below 2^64
abbrev pub text_end_of : Extent → Result ℕ Refusal
text_end_of text = if nat_lt (text.address + text.size) (2 ^ 64) then Ok (text.address + text.size) else Err malformed_input

-- the text's end and size, the string table, and the rows
pub record Located : Type 0 where
  pub text_end : ℕ
  pub text_size : ℕ
  pub strings : List ℕ
  pub rows : List ℕ

-- the text with its symbols
unfoldable pub located_at : Extent → Symbols → Result Located Refusal
located_at text symbols = do
  text_end ← text_end_of text
  Ok (record { text_end = text_end; text_size = text.size; strings = symbols.strings; rows = symbols.rows })

-- the same, if there is a symbol table
abbrev pub located_by : Extent → Option Symbols → Result (Option Located) Refusal
located_by text None = Ok None
located_by text (Some symbols) = located_at text symbols >>= λ found. Ok (Some found)

-- the refusals in order; else where the symbols are, or None where the file has no symbol table
unfoldable pub located : List ℕ → Result (Option Located) Refusal
located file = do
  text ← text_extent file
  table ← table_of file
  symbols ← symbols_by file table
  located_by text symbols

-- the row's value, where it isn't 0, and the row's number
abbrev pub address_of : List ℕ → ℕ → Option RowAddress
address_of rows k = if nat_eq (symbol_of rows k).value 0 then None else Some (record { address = (symbol_of rows k).value; row = k })

-- the addresses of a table: the values that aren't 0, of any section or type, in table order
abbrev pub row_addresses : List ℕ → List RowAddress
row_addresses rows = filter_map (address_of rows) (range_with_len 0 (length rows / symbol_length))

-- a row with a name offset, whose N_TYPE has one of the bits 0x0A (each type that the format defines but N_UNDF has one), and in section number 1, the file's first section, whichever that is
abbrev pub is_candidate : SymbolRow ℕ → Bool
is_candidate row = not (nat_eq row.name 0) && not (nat_eq (bit_and row.kind 0x0A) 0) && nat_eq row.section 1

-- up to the address above; if there is none up to the text's end, with no size at that end and a refusal past it
abbrev pub size_up_to : Option ℕ → ℕ → ℕ → Result (Option ℕ) Refusal
size_up_to (Some above) text_end address = Ok (Some (above - address))
size_up_to None text_end address =
    if nat_lt address text_end then Ok (Some (text_end - address))
    else if nat_eq address text_end then Ok None
    else Err malformed_input

-- the size of a symbol: up to the least address above its own, in whatever section that lies, else to the text's end
unfoldable pub macho_size : List ℕ → ℕ → ℕ → Result (Option ℕ) Refusal
macho_size addresses text_end address = size_up_to (least_above addresses address) text_end address

-- the entry, if there is a size and the name is valid
abbrev pub sized_entry : ℕ → Option ℕ → Option (List ℕ) → Option Entry
sized_entry address None name = None
sized_entry address (Some size) None = None
sized_entry address (Some size) (Some name) = Some (record { name = name; address = address; size = size })

-- the result for a row with an address: nothing, its entry, or the refusal of a candidate's size, whether or not its name is valid
unfoldable pub entry_of : Located → RowAddress → Result (Option Entry) Refusal
entry_of found at =
    if is_candidate (symbol_of found.rows at.row)
    then (macho_size (addresses_of (row_addresses found.rows)) found.text_end at.address
    >>= λ size. Ok (sized_entry at.address size (text_at found.strings (symbol_of found.rows at.row).name)))
    else Ok None

-- what is kept of each, unless one is refused
unfoldable pub kept : {X Y : Type 0} → (X → Result (Option Y) Refusal) → List X → Result (List Y) Refusal
kept f [] = Ok []
kept f (x ∷ xs) = do
  y ← f x
  ys ← kept f xs
  Ok (cons_option y ys)

-- the list for these rows of a table: what is kept of each, in their order, and the size of the text
abbrev pub listed_of : Located → List RowAddress → Result Listed Refusal
listed_of found rows = do
  entries ← kept (entry_of found) rows
  Ok (record { entries = entries; section_size = found.text_size })

-- the entries in the order of (address, row number), and the size of the text
unfoldable pub answer_of : Option Located → Result Listed Refusal
answer_of None = Ok (record { entries = []; section_size = 0 })
answer_of (Some found) = listed_of found (arranged (row_addresses found.rows))

unfoldable pub macho_answer : List ℕ → Result Listed Refusal
macho_answer file = located file >>= answer_of

-- that of a file that has a header
abbrev pub macho_file_answer : List ℕ → Result Listed Refusal
macho_file_answer file = if_as_long_as least_length file (macho_answer file)

-- a law of that answer: its entries are what is kept of the table's rows with an address, arranged so that (address, row number) rises strictly
abbrev pub ArrangesRows : List ℕ → Type 0
ArrangesRows file = (found : Located) (listed : Listed) → located file ≡ Ok (Some found) → macho_answer file ≡ Ok listed
    → ListsArranged (row_addresses found.rows) (λ in_order entries. kept (entry_of found) in_order ≡ Ok entries) listed.entries

-- sizes over a table's addresses: no address lies strictly inside an entry's range, and entries of one address have one size
pub record AreSized (addresses : List ℕ) (entries : List Entry) : Type 0 where
  pub apart : All (λ e. All (λ a. e.address < a → e.address + e.size ≤ a) addresses) entries
  pub agree : All (λ e. All (λ f. e.address ≡ f.address → e.size ≡ f.size) entries) entries

-- another law of that answer: its entries are sized so over the table's addresses
abbrev pub SizesEntries : List ℕ → Type 0
SizesEntries file = (found : Located) (listed : Listed) → located file ≡ Ok (Some found) → macho_answer file ≡ Ok listed
    → AreSized (addresses_of (row_addresses found.rows)) listed.entries

-- the symbol table is there, and has a value that isn't 0
pub record HasAddress (file : List ℕ) : Type 0 where
  pub found : Located
  pub is_located : located file ≡ Ok (Some found)
  pub some : row_addresses found.rows ≢ []
