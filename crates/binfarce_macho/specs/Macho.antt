-- 64-bit little-endian Mach-O files (Apple's <mach-o/loader.h>): the offsets and widths of fields, and their values.
use Rattle.std.specs.Prelude.{ℕ, zero, suc, ◌+◌, ◌-◌, ◌*◌, ◌/◌, Bool, ◌&&◌, ◌||◌, List, [], ◌∷◌, length, Option, Some, None, Result, nat_eq, nat_lt, nat_le, bit_and, min, if◌then◌else◌}
use Rattle.std.specs.List.{range_with_len, filter_map}
use Rattle.std.specs.Str.{bytes_eq}
use Rattle.binfarce_bytes.specs.Steps.{◌>>=◌}
use Rattle.binfarce_bytes.specs.Number.{bytes_at}
use Rattle.binfarce_bytes.specs.Text.{padded_name}
use Rattle.binfarce_bytes.specs.Refusal.{Refusal, malformed_input, unexpected_eof, bytes_in_file}
use Rattle.binfarce_bytes.specs.Walk.{Walk, ended, ahead_of, and_then}
use Rattle.binfarce_bytes.specs.Field.{Field, field, number_in}

-- mach_header_64: one A for each field after the magic number
pub record Header (A : Type 0) : Type 0 where
  pub cputype : A
  pub cpusubtype : A
  pub filetype : A
  pub ncmds : A
  pub sizeofcmds : A
  pub flags : A

unfoldable pub header_fields : Header Field
header_fields = record {
  cputype = field 4 4;
  cpusubtype = field 8 4;
  filetype = field 12 4;
  ncmds = field 16 4;
  sizeofcmds = field 20 4;
  flags = field 24 4;
}

-- mach_header_64 has 32 bytes. Its fields end at 28; the four reserved bytes after them aren't read and may be missing
abbrev pub header_length : ℕ
header_length = 32

abbrev pub least_length : ℕ
least_length = 28

-- the file's header
unfoldable pub header_of : List ℕ → Header ℕ
header_of file = record {
  cputype = number_in file 0 header_fields.cputype;
  cpusubtype = number_in file 0 header_fields.cpusubtype;
  filetype = number_in file 0 header_fields.filetype;
  ncmds = number_in file 0 header_fields.ncmds;
  sizeofcmds = number_in file 0 header_fields.sizeofcmds;
  flags = number_in file 0 header_fields.flags;
}

-- load_command has 8 bytes: its kind, and its size, which counts these bytes too
abbrev pub command_length : ℕ
command_length = 8

-- a load command, and where it begins
pub record Command : Type 0 where
  pub offset : ℕ
  pub kind : ℕ
  pub size : ℕ

abbrev pub command_at : List ℕ → ℕ → Command
command_at file offset = record { offset = offset; kind = number_in file offset (field 0 4); size = number_in file offset (field 4 4) }

-- where a command's body begins
abbrev pub body_of : Command → ℕ
body_of command = command.offset + command_length

-- at most n commands from an offset on, each right after the one before it. They end where no further one fits. They end with a refusal at a command
-- whose size is below its own 8 bytes; that command isn't given
unfoldable pub commands_from : List ℕ → ℕ → ℕ → Walk Command
commands_from file zero offset = ended None
commands_from file (suc n) offset =
    if nat_lt (length file) (offset + command_length) then ended None
    else if nat_lt (command_at file offset).size command_length then ended (Some malformed_input)
    else ahead_of (command_at file offset) (commands_from file n (offset + (command_at file offset).size))

-- the file's commands, at most as many as the header states, from its end on
abbrev pub commands : List ℕ → Walk Command
commands file = commands_from file (header_of file).ncmds header_length

-- section_64: one A for each field that every section has
pub record SectionHeader (A : Type 0) : Type 0 where
  pub section_name : A
  pub segment_name : A
  pub address : A
  pub size : A
  pub offset : A

unfoldable pub section_fields : SectionHeader Field
section_fields = record {
  section_name = field 0 16;
  segment_name = field 16 16;
  address = field 32 8;
  size = field 40 8;
  offset = field 48 4;
}

-- section_64 has 80 bytes. These fields end at 52; of the last structure of a file the 28 bytes after them may be missing
abbrev pub section_length : ℕ
section_length = 80

abbrev pub section_unread : ℕ
section_unread = 28

-- flags of section_64; 0 in a structure that is truncated before their end
unfoldable pub flags_at : List ℕ → ℕ → ℕ
flags_at file start = if nat_le (start + 68) (length file) then number_in file start (field 64 4) else 0

-- a section: its two names, its address in memory, the offset and the number of its bytes in the file, and its flags
pub record Section : Type 0 where
  pub segment_name : List ℕ
  pub section_name : List ℕ
  pub address : ℕ
  pub offset : ℕ
  pub size : ℕ
  pub flags : ℕ

-- SECTION_TYPE: the low byte of the flags
abbrev pub section_type : Section → ℕ
section_type s = bit_and s.flags 0xFF

-- S_ZEROFILL (1), S_GB_ZEROFILL (12) or S_THREAD_LOCAL_ZEROFILL (18): filled with zeros in memory
abbrev pub is_zero_filled : Section → Bool
is_zero_filled s = nat_eq (section_type s) 1 || (nat_eq (section_type s) 12 || nat_eq (section_type s) 18)

-- how many bytes a section has in the file: its size, but none where it is filled with zeros, or its offset is 0
abbrev pub file_size : Section → ℕ
file_size s = if is_zero_filled s || nat_eq s.offset 0 then 0 else s.size

-- a section's or a segment's name, from its own 16 bytes
abbrev pub name_in : List ℕ → ℕ → Field → Option (List ℕ)
name_in file start f = padded_name (bytes_at file (start + f.offset) f.width)

-- the section whose structure begins at start, where both its names are valid
unfoldable pub section_at : List ℕ → ℕ → Option Section
section_at file start = do
  section_name ← name_in file start section_fields.section_name
  segment_name ← name_in file start section_fields.segment_name
  Some (record {
    segment_name = segment_name;
    section_name = section_name;
    address = number_in file start section_fields.address;
    offset = number_in file start section_fields.offset;
    size = number_in file start section_fields.size;
    flags = flags_at file start;
  })

-- segment_command_64, in its body: the number of its sections, after which 4 bytes of flags aren't read
abbrev pub section_count : List ℕ → ℕ → ℕ
section_count file body = number_in file body (field 56 4)

-- the body up to the end of that number, and the whole body, which the sections follow
abbrev pub segment_read : ℕ
segment_read = 60

abbrev pub segment_length : ℕ
segment_length = 64

-- the offset of section structure i of a segment command
abbrev pub section_offset : ℕ → ℕ → ℕ
section_offset body i = body + segment_length + i * section_length

-- how many section structures of a segment command the file has room for
abbrev pub whole_headers : List ℕ → ℕ → ℕ
whole_headers file body = (length file + section_unread - (body + segment_length)) / section_length

-- the sections numbered below n of a segment command with this body
abbrev pub sections_below : List ℕ → ℕ → ℕ → List Section
sections_below file body n = filter_map (λ i. section_at file (section_offset body i)) (range_with_len 0 n)

-- segment_command_64: the sections of the structures numbered below its count, up to the first that is truncated
unfoldable pub segment : List ℕ → ℕ → Walk Section
segment file body =
    if nat_lt (length file) (body + segment_read) then ended (Some unexpected_eof)
    else record {
      items = sections_below file body (min (section_count file body) (whole_headers file body));
      refusal = if nat_le (section_count file body) (whole_headers file body) then None else Some unexpected_eof;
    }

-- LC_SEGMENT_64
abbrev pub is_segment : Command → Bool
is_segment command = nat_eq command.kind 0x19

-- the sections of the segments among these commands, in order
unfoldable pub sections_of : List ℕ → List Command → Option Refusal → Walk Section
sections_of file [] refusal = ended refusal
sections_of file (command ∷ others) refusal =
    if is_segment command then and_then (segment file (body_of command)).items (segment file (body_of command)).refusal (sections_of file others refusal)
    else sections_of file others refusal

-- the file's sections, up to the first truncated field or the bad command
unfoldable pub walk : List ℕ → Walk Section
walk file = sections_of file (commands file).items (commands file).refusal

-- the section has these two names
abbrev pub is_named : List ℕ → List ℕ → Section → Bool
is_named segment_name section_name section = bytes_eq section.segment_name segment_name && bytes_eq section.section_name section_name

-- the bytes of a section
abbrev pub section_data : List ℕ → Section → Result (List ℕ) Refusal
section_data file section = bytes_in_file file section.offset section.size
