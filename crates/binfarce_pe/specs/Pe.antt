-- PE files (Microsoft PE Format): the fields of the file header and of the section headers. Every number is little endian.
use Rattle.std.specs.Prelude.{ℕ, ◌+◌, ◌-◌, ◌*◌, ◌/◌, Bool, ◌&&◌, List, length, Option, Some, None, Result, nat_eq, nat_lt, nat_le, min, max, if◌then◌else◌}
use Rattle.std.specs.Option.{option_map}
use Rattle.std.specs.List.{range_with_len, filter_map}
use Rattle.std.specs.Str.{bytes_eq}
use Rattle.binfarce_bytes.specs.declared.ByteOrder.TheVariants.{LittleEndian}
use Rattle.binfarce_bytes.specs.Number.{number, bytes_at}
use Rattle.binfarce_bytes.specs.Text.{padded_text}
use Rattle.binfarce_bytes.specs.Field.{Field, field, number_in}
use Rattle.binfarce_bytes.specs.Refusal.{Refusal, unexpected_eof, bytes_in_file}
use Rattle.binfarce_bytes.specs.Walk.{Walk}

-- COFF File Header: one A for each field
pub record Header (A : Type 0) : Type 0 where
  pub machine : A
  pub number_of_sections : A
  pub time_date_stamp : A
  pub pointer_to_symbol_table : A
  pub number_of_symbols : A
  pub size_of_optional_header : A
  pub characteristics : A

-- Section Header: one A for each field that every section has
pub record SectionHeader (A : Type 0) : Type 0 where
  pub name : A
  pub virtual_size : A
  pub virtual_address : A
  pub size_of_raw_data : A
  pub pointer_to_raw_data : A

-- counted from the end of the signature
unfoldable pub header_fields : Header Field
header_fields = record {
  machine = field 0 2;
  number_of_sections = field 2 2;
  time_date_stamp = field 4 4;
  pointer_to_symbol_table = field 8 4;
  number_of_symbols = field 12 4;
  size_of_optional_header = field 16 2;
  characteristics = field 18 2;
}

unfoldable pub section_fields : SectionHeader Field
section_fields = record {
  name = field 0 8;
  virtual_size = field 8 4;
  virtual_address = field 12 4;
  size_of_raw_data = field 16 4;
  pointer_to_raw_data = field 20 4;
}

-- a section header has 40 bytes. These fields end at 24; of the last header of a file the 16 bytes after them may be missing
abbrev pub section_length : ℕ
section_length = 40

abbrev pub section_unread : ℕ
section_unread = 16

-- where the signature begins: its offset is at 0x3C, in the MS-DOS stub
abbrev pub signature_offset : List ℕ → ℕ
signature_offset file = number LittleEndian (bytes_at file 0x3C 4)

-- the length of the signature and the file header together: 4 and 20 bytes
abbrev pub headers_length : ℕ
headers_length = 24

-- the stub has 64 bytes
abbrev pub least_length : List ℕ → ℕ
least_length file = max 64 (signature_offset file + headers_length)

-- the file header, after a signature at this offset
unfoldable pub header_after : List ℕ → ℕ → Header ℕ
header_after file signature = record {
  machine = number_in file (signature + 4) header_fields.machine;
  number_of_sections = number_in file (signature + 4) header_fields.number_of_sections;
  time_date_stamp = number_in file (signature + 4) header_fields.time_date_stamp;
  pointer_to_symbol_table = number_in file (signature + 4) header_fields.pointer_to_symbol_table;
  number_of_symbols = number_in file (signature + 4) header_fields.number_of_symbols;
  size_of_optional_header = number_in file (signature + 4) header_fields.size_of_optional_header;
  characteristics = number_in file (signature + 4) header_fields.characteristics;
}

abbrev pub header_of : List ℕ → Header ℕ
header_of file = header_after file (signature_offset file)

-- where the section table begins: after the file header and the optional header
abbrev pub sections_offset : List ℕ → ℕ
sections_offset file = signature_offset file + headers_length + (header_of file).size_of_optional_header

-- how many bytes of an optional header state the image base: in PE32 it ends at 32, in PE32+ too
abbrev pub optional_header_length : ℕ
optional_header_length = 32

-- ImageBase, by the magic number of an optional header that begins with these bytes: PE32 (0x10B) or PE32+ (0x20B); none for another, and for fewer bytes
unfoldable pub image_base : List ℕ → Option ℕ
image_base header =
    let magic = number_in header 0 (field 0 2) in
    if nat_lt (length header) optional_header_length then None
    else if nat_eq magic 0x10B then Some (number_in header 0 (field 28 4))
    else if nat_eq magic 0x20B then Some (number_in header 0 (field 24 8))
    else None

-- Characteristics, the section's flags; 0 in a header that is truncated before their end
unfoldable pub characteristics_at : List ℕ → ℕ → ℕ
characteristics_at file start = if nat_le (start + 40) (length file) then number_in file start (field 36 4) else 0

-- the values of a section header, and the section's index
pub record Section : Type 0 where
  pub name : List ℕ
  pub virtual_size : ℕ
  pub virtual_address : ℕ
  pub size_of_raw_data : ℕ
  pub pointer_to_raw_data : ℕ
  pub characteristics : ℕ
  pub index : ℕ

-- how many bytes the section has in the file: SizeOfRawData, but none where PointerToRawData is 0
abbrev pub file_size : Section → ℕ
file_size s = if nat_eq s.pointer_to_raw_data 0 then 0 else s.size_of_raw_data

-- how many bytes it has in memory: VirtualSize; if that is 0, as in object files, SizeOfRawData
abbrev pub memory_size : Section → ℕ
memory_size s = if nat_eq s.virtual_size 0 then s.size_of_raw_data else s.virtual_size

-- the section of this index, whose header begins at start; none where its name isn't UTF-8
unfoldable pub section_at : List ℕ → ℕ → ℕ → Option Section
section_at file start index =
    option_map
    (λ name. record {
      name = name;
      virtual_size = number_in file start section_fields.virtual_size;
      virtual_address = number_in file start section_fields.virtual_address;
      size_of_raw_data = number_in file start section_fields.size_of_raw_data;
      pointer_to_raw_data = number_in file start section_fields.pointer_to_raw_data;
      characteristics = characteristics_at file start;
      index = index;
    })
    (padded_text (bytes_at file (start + section_fields.name.offset) section_fields.name.width))

-- section header i of the table
abbrev pub section_of : List ℕ → ℕ → Option Section
section_of file i = section_at file (sections_offset file + i * section_length) i

-- how many section headers the file has room for
abbrev pub whole_headers : List ℕ → ℕ
whole_headers file = (length file + section_unread - sections_offset file) / section_length

-- the sections are those numbered below the count, up to the first whose header is truncated, without those that have no valid name. A table that
-- doesn't begin in the file is refused even where it is empty
unfoldable pub walk : List ℕ → Walk Section
walk file = record {
  items = filter_map (section_of file) (range_with_len 0 (min (header_of file).number_of_sections (whole_headers file)));
  refusal = if nat_lt (sections_offset file) (length file) && nat_le (header_of file).number_of_sections (whole_headers file) then None else Some unexpected_eof;
}

-- the section has this name
abbrev pub is_named : List ℕ → Section → Bool
is_named name section = bytes_eq section.name name

-- the bytes of a section
abbrev pub section_data : List ℕ → Section → Result (List ℕ) Refusal
section_data file section = bytes_in_file file section.pointer_to_raw_data section.size_of_raw_data
