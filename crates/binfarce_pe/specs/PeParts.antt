-- The tables that the symbols of a PE file need, found in the file header and the section headers alone.
use Rattle.std.specs.Prelude.{ℕ, ◌+◌, ◌-◌, ◌*◌, ◌/◌, ◌&&◌, List, length, codes, Option, Some, None, Result, Ok, nat_lt, nat_le, min, if◌then◌else◌}
use Rattle.std.specs.List.{range_with_len, filter_map}
use Rattle.binfarce_bytes.specs.Refusal.{◌>>=◌, Refusal, required, symbols_section_is_missing, unexpected_eof}
use Rattle.binfarce_bytes.specs.Walk.{Walk, first}
use Rattle.binfarce_pe.specs.declared.parts.TableOffsets.{TableOffsets}
use Rattle.binfarce_pe.specs.declared.parts.Text.{Text}
use Rattle.binfarce_pe.specs.declared.sections.Table.{Table}
use Rattle.binfarce_pe.specs.declared.symbols.CoffTable as code
use Rattle.binfarce_pe.specs.Pe.{Header, header_of, headers_length, optional_header_length, signature_offset, sections_offset, Section, section_at, section_length, section_unread, is_named}
use Rattle.binfarce_pe.specs.PeSymbols.{CoffTable, symbol_length}

-- where the optional header begins, and how many bytes of it state the image base; where the section table begins, and how many headers it has; where the
-- symbol table begins, and how many bytes its records have
pub record TablePlaces : Type 0 where
  pub optional_header : ℕ
  pub optional_header_size : ℕ
  pub sections : ℕ
  pub section_count : ℕ
  pub symbols : ℕ
  pub symbols_size : ℕ

-- as the file header after a signature at this offset states them
abbrev pub places_after : ℕ → Header ℕ → TablePlaces
places_after signature header = record {
  optional_header = signature + headers_length;
  optional_header_size = min header.size_of_optional_header optional_header_length;
  sections = signature + headers_length + header.size_of_optional_header;
  section_count = header.number_of_sections;
  symbols = header.pointer_to_symbol_table;
  symbols_size = header.number_of_symbols * symbol_length;
}

abbrev pub places_of : List ℕ → TablePlaces
places_of file = places_after (signature_offset file) (header_of file)

-- a `TableOffsets`
abbrev pub places_view : TableOffsets → TablePlaces
places_view p = record { optional_header = p.optional_header; optional_header_size = p.optional_header_size; sections = p.sections; section_count = p.section_count; symbols = p.symbols; symbols_size = p.symbols_size }

-- section headers: the bytes that hold them, their offset in these bytes, and their number
pub record SectionTable : Type 0 where
  pub bytes : List ℕ
  pub offset : ℕ
  pub count : ℕ

-- a `Table`
abbrev pub headers_view : Table → SectionTable
headers_view t = record { bytes = t.bytes.now; offset = t.offset; count = t.count }

-- those of a file
abbrev pub section_table : List ℕ → SectionTable
section_table file = record { bytes = file; offset = sections_offset file; count = (header_of file).number_of_sections }

-- the section headers alone, as a table that begins at its first byte
abbrev pub headers_alone : List ℕ → ℕ → SectionTable
headers_alone headers count = record { bytes = headers; offset = 0; count = count }

-- how many section headers the bytes have room for
abbrev pub whole_in : SectionTable → ℕ
whole_in table = (length table.bytes + section_unread - table.offset) / section_length

-- section header i of a table
abbrev pub section_in : SectionTable → ℕ → Option Section
section_in table i = section_at table.bytes (table.offset + i * section_length) i

-- the sections of a table; for the table of a file, the sections of the file
unfoldable pub table_walk : SectionTable → Walk Section
table_walk table = record {
  items = filter_map (section_in table) (range_with_len 0 (min table.count (whole_in table)));
  refusal = if nat_lt table.offset (length table.bytes) && nat_le table.count (whole_in table) then None else Some unexpected_eof;
}

-- the text: the first section `.text` of a table
abbrev pub text_among : SectionTable → Result Section Refusal
text_among table = first (λ section. is_named (codes ".text") section) (table_walk table) >>= required symbols_section_is_missing

-- the index of the text, and how many bytes it has in the file
pub record TextPlace : Type 0 where
  pub index : ℕ
  pub size : ℕ

-- a `Text`
abbrev pub text_view : Text → TextPlace
text_view t = record { index = t.index; size = t.size }

abbrev pub text_place : SectionTable → Result TextPlace Refusal
text_place table = text_among table >>= λ text. Ok (record { index = text.index; size = text.size_of_raw_data })

-- a `CoffTable`
abbrev pub table_view : code.CoffTable → CoffTable
table_view t = record { rows = t.rows.now; strings = t.strings.now }
