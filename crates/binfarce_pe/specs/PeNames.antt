-- The names of sections (Microsoft PE Format, "Section Table (Section Headers)" and "COFF String Table"). One of more than 8 bytes is in the string table, and its
-- header has the offset there.
use Rattle.std.specs.Prelude.{ℕ, ◌+◌, Bool, ◌&&◌, List, [], codes, drop, find, length, Option, Some, None, is_some, nat_eq, nat_lt, unwrap_or, if◌then◌else◌}
use Rattle.std.specs.Option.{option_and_then}
use Rattle.std.specs.List.{list_all, starts_with}
use Rattle.std.specs.Char.{is_ascii_digit}
use Rattle.std.specs.Int.{is_in_range}
use Rattle.std.specs.Str.Parse.{digits_value}
use Rattle.binfarce_bytes.specs.Field.{field, number_in}
use Rattle.binfarce_bytes.specs.Number.{bytes_at}
use Rattle.binfarce_bytes.specs.Text.{text_at}
use Rattle.binfarce_bytes.specs.Walk.{Walk}
use Rattle.binfarce_pe.specs.Pe.{Section}
use Rattle.binfarce_pe.specs.PeSymbols.{table_offset, table_size}

-- the string table in the bytes from its beginning on: as many as its first 4 bytes state, which count themselves, or all if there are fewer
unfoldable pub string_table : List ℕ → List ℕ
string_table bytes = if nat_lt (length bytes) 4 then [] else bytes_at bytes 0 (number_in bytes 0 (field 0 4))

-- where that of a file begins: behind the records of the symbol table
abbrev pub strings_offset : List ℕ → ℕ
strings_offset file = table_offset file + table_size file

-- that of a file: none where it would begin at 0, as in a file without a symbol table
unfoldable pub strings_of : List ℕ → List ℕ
strings_of file = if nat_eq (strings_offset file) 0 then [] else string_table (drop (strings_offset file) file)

-- the number that 1 to 7 decimal digits write: as many as 8 bytes have room for behind a slash
abbrev pub decimal_in : List ℕ → Option ℕ
decimal_in digits = if is_in_range 1 7 (length digits) && list_all is_ascii_digit digits then Some (digits_value 10 digits) else None

-- the offset in the string table that a stored name states: a slash, and such a number
unfoldable pub offset_in : List ℕ → Option ℕ
offset_in stored = if starts_with nat_eq stored (codes "/") then decimal_in (drop 1 stored) else None

-- the text at an offset of the string table, which begins with its length
abbrev pub text_in : List ℕ → ℕ → Option (List ℕ)
text_in strings offset = if nat_lt offset 4 then None else text_at strings offset

-- a section's name: the text at the offset that the stored name states, if there is one, and else the stored name
unfoldable pub full_name : (strings stored : List ℕ) → List ℕ
full_name strings stored = unwrap_or (option_and_then (text_in strings) (offset_in stored)) stored

-- the name of one of these sections is in the string table
unfoldable pub has_long_names : Walk Section → Bool
has_long_names walk = is_some (find (λ s. is_some (offset_in s.name)) walk.items)
