-- The sections of a Mach-O file by their numbers, and the function symbols of those that hold instructions.
use Rattle.std.specs.Prelude.{◌≢◌, ℕ, ◌+◌, ◌-◌, ◌/◌, Bool, ◌&&◌, ◌||◌, List, [], ◌∷◌, ◌++◌, length, codes, map, take, slice_get, unwrap_or, bit_and, not, nat_eq, nat_le, nat_lt, Option, Some, None, Result, Ok, if◌then◌else◌}
use Rattle.std.specs.Option.{option_map}
use Rattle.std.specs.List.{range_with_len, filter_map, flat_map, starts_with}
use Rattle.binfarce_bytes.specs.Text.{text_at}
use Rattle.binfarce_bytes.specs.Refusal.{◌>>=◌, Refusal}
use Rattle.binfarce_bytes.specs.Field.{number_in}
use Rattle.binfarce_bytes.specs.Entries.{Entry}
use Rattle.binfarce_bytes.specs.SectionEntries.{SectionEntry, in_section, unless}
use Rattle.binfarce_bytes.specs.Sizes.{RowAddress, arranged, addresses_of, least_above}
use Rattle.binfarce_macho.specs.Macho.{Command, commands, body_of, is_segment, Section, section_at, section_count, section_offset, section_fields, flags_at, walk}
use Rattle.binfarce_macho.specs.MachoSymbols.{Extent, Symbols, SymbolRow, symbol_of, symbol_length}

-- MAX_SECT: a row has the number of its section in one byte
abbrev pub greatest_section : ℕ
greatest_section = 255

-- where the structures of the first sections of a segment command with this body begin, as many as that
abbrev pub first_starts : ℕ → ℕ → List ℕ
first_starts body count = map (λ i. section_offset body i) (range_with_len 0 count)

-- of all its sections
abbrev pub starts_in : List ℕ → ℕ → List ℕ
starts_in file body = first_starts body (section_count file body)

-- those of the segments among these commands
abbrev pub starts_among : List ℕ → List Command → List ℕ
starts_among file commands = flat_map (λ command. if is_segment command then starts_in file (body_of command) else []) commands

-- those of the file, which numbers its sections from 1 on, also a section whose name isn't valid: the first 255. Refused as the walk over the sections is
unfoldable pub section_starts : List ℕ → Result (List ℕ) Refusal
section_starts file = unless (walk file).refusal (take greatest_section (starts_among file (commands file).items))

-- the file has a section
abbrev pub HasSection : List ℕ → Type 0
HasSection file = starts_among file (commands file).items ≢ []

-- the section whose structure begins at start holds instructions: its flags have S_ATTR_PURE_INSTRUCTIONS (0x80000000) or S_ATTR_SOME_INSTRUCTIONS (0x400)
unfoldable pub has_instructions : List ℕ → ℕ → Bool
has_instructions file start = not (nat_eq (bit_and (flags_at file start) 0x80000400) 0)

-- where that section is in memory
unfoldable pub extent_at : List ℕ → ℕ → Extent
extent_at file start = record { address = number_in file start section_fields.address; size = number_in file start section_fields.size }

-- a section's name behind its segment's, as `otool` and `ld` have it: `SEGMENT,SECTION`
abbrev pub full_name : Section → List ℕ
full_name section = section.segment_name ++ 44 ∷ section.section_name

-- that of the section whose structure begins at start; none where one of its two names isn't valid
abbrev pub name_at : List ℕ → ℕ → Option (List ℕ)
name_at file start = option_map full_name (section_at file start)

-- a section: where it is in memory, whether it holds instructions, and its name
pub record NumberedSection : Type 0 where
  pub extent : Extent
  pub has_instructions : Bool
  pub name : Option (List ℕ)

-- the section whose structure begins at start
unfoldable pub numbered_at : List ℕ → ℕ → NumberedSection
numbered_at file start = record { extent = extent_at file start; has_instructions = has_instructions file start; name = name_at file start }

-- the sections of a file, in the order of their numbers
unfoldable pub numbered_sections : List ℕ → Result (List NumberedSection) Refusal
numbered_sections file = section_starts file >>= λ starts. Ok (map (numbered_at file) starts)

-- the name of the section of this number, of which the first has number 1
abbrev pub name_of : List NumberedSection → ℕ → Option (List ℕ)
name_of sections number = if nat_eq number 0 then None else unwrap_or (option_map (λ s. s.name) (slice_get sections (number - 1))) None

-- the address lies in the section
abbrev pub lies_in : Extent → ℕ → Bool
lies_in section address = nat_le section.address address && nat_lt address (section.address + section.size)

-- a row that is defined in the section of this number: of the type N_SECT (0x0e of the bits N_TYPE, 0x0e), and no entry for a debugger (no bit of N_STAB, 0xe0)
abbrev pub is_defined_in : ℕ → SymbolRow ℕ → Bool
is_defined_in number row = nat_eq (bit_and row.kind 0xEE) 0x0E && nat_eq row.section number

-- a label of the assembler
abbrev pub is_label : List ℕ → Bool
is_label name = starts_with nat_eq name (codes "ltmp") || starts_with nat_eq name (codes "L")

-- a name that can be read and is no label
abbrev pub no_label : Option (List ℕ) → Option (List ℕ)
no_label None = None
no_label (Some name) = if is_label name then None else Some name

-- the name of a row that is kept: a function of the section of this number, which lies in it
unfoldable pub function_name : List ℕ → Extent → ℕ → SymbolRow ℕ → Option (List ℕ)
function_name strings section number row =
    if is_defined_in number row && lies_in section row.value && not (nat_eq row.name 0) then no_label (text_at strings row.name) else None

-- the address and the number of such a row
unfoldable pub kept_row : Symbols → Extent → ℕ → ℕ → Option RowAddress
kept_row symbols section number k =
    option_map (λ _. record { address = (symbol_of symbols.rows k).value; row = k }) (function_name symbols.strings section number (symbol_of symbols.rows k))

-- the rows that are kept of the section of this number, in table order
abbrev pub kept_rows : Symbols → Extent → ℕ → List RowAddress
kept_rows symbols section number = filter_map (kept_row symbols section number) (range_with_len 0 (length symbols.rows / symbol_length))

-- the size at an address of a kept row: up to the least of these addresses above it, if there is one, else up to the section's end
abbrev pub size_in : Extent → List ℕ → ℕ → ℕ
size_in section addresses address = unwrap_or (least_above addresses address) (section.address + section.size) - address

-- the entry of a kept row
unfoldable pub section_entry : Symbols → Extent → ℕ → RowAddress → Option Entry
section_entry symbols section number at =
    option_map (λ name. record { name = name; address = at.address; size = size_in section (addresses_of (kept_rows symbols section number)) at.address })
    (function_name symbols.strings section number (symbol_of symbols.rows at.row))

-- the entries of the section of this number, in the order of (address, row number); each kept row has a name, so that none is left out
unfoldable pub entries_of : Symbols → NumberedSection → ℕ → List Entry
entries_of symbols section number =
    if section.has_instructions then filter_map (section_entry symbols section.extent number) (arranged (kept_rows symbols section.extent number)) else []

-- those entries with that number, if there is such a section
abbrev pub entries_at : Symbols → ℕ → Option NumberedSection → List SectionEntry
entries_at symbols number None = []
entries_at symbols number (Some section) = in_section number (entries_of symbols section number)
