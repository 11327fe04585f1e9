-- The parts of a PE file that are read.
use Rattle.std.specs.Prelude.{ℕ, ◌+◌, ◌-◌, ◌*◌, List, [], ◌∷◌, ◌++◌, length, Option, Some, None, min, max, nat_eq, nat_le, if◌then◌else◌}
use Rattle.binfarce_bytes.specs.Field.{field, number_in}
use Rattle.binfarce_bytes.specs.Part.{Part, field_part, part, parts_if}
use Rattle.binfarce_pe.specs.Pe.{headers_length, signature_offset, section_length, walk}
use Rattle.binfarce_pe.specs.PeNames.{has_long_names}
use Rattle.binfarce_pe.specs.PeParts.{TablePlaces, places_of}

-- the signature's offset, in the MS-DOS stub
abbrev pub pointer_part : Part
pointer_part = field_part 0 (field 0x3C 4)

-- the signature and the file header
abbrev pub header_part : List ℕ → Part
header_part file = part (signature_offset file) headers_length

-- these state where the tables are
abbrev pub places_parts : List ℕ → List Part
places_parts file = pointer_part ∷ header_part file ∷ []

-- the beginning of the optional header, which states the image base
abbrev pub optional_header_part : TablePlaces → Part
optional_header_part places = part places.optional_header places.optional_header_size

-- the section headers: as many of their bytes as the file has
abbrev pub headers_part : List ℕ → TablePlaces → Part
headers_part file places = part places.sections (min (places.section_count * section_length) (length file - places.sections))

-- the records of the symbol table, and the bytes after them, which have the strings; none where the records extend past the file's end
abbrev pub table_parts : List ℕ → TablePlaces → List Part
table_parts file places =
    let end = places.symbols + places.symbols_size in
    if nat_le end (length file) then part places.symbols places.symbols_size ∷ part end (length file - end) ∷ [] else []

-- the beginning up to the end of the section headers, or if there are none up to the end of the first byte of their table; at least the stub, but no
-- more than the file has
abbrev pub beginning_part : List ℕ → TablePlaces → Part
beginning_part file places = part 0 (min (max (places.sections + max (places.section_count * section_length) 1) 64) (length file))

-- where the string table begins in a file of this length: behind the records, but not at 0, and with room for its length
abbrev pub strings_at : ℕ → TablePlaces → Option ℕ
strings_at len places =
    let offset = places.symbols + places.symbols_size in
    if nat_eq offset 0 then None else if nat_le (offset + 4) len then Some offset else None

-- the string table that begins at an offset: its length, and as many bytes as that states, or as the file has
abbrev pub table_strings_parts : List ℕ → ℕ → List Part
table_strings_parts file offset = part offset 4 ∷ part offset (min (number_in file offset (field 0 4)) (length file - offset)) ∷ []

-- the string table, where the name of a section is in it
abbrev pub strings_parts : List ℕ → TablePlaces → List Part
strings_parts file places = if has_long_names (walk file) then parts_if (strings_at (length file) places) (table_strings_parts file) else []

-- what a reading of the sections reads
unfoldable pub pe_section_parts : List ℕ → List Part
pe_section_parts file = pointer_part ∷ header_part file ∷ beginning_part file (places_of file) ∷ strings_parts file (places_of file)

-- what every selection needs: the section headers, and the beginning of the optional header
abbrev pub selected_parts : List ℕ → TablePlaces → List Part
selected_parts file places = headers_part file places ∷ optional_header_part places ∷ []

-- what a reading of the symbols reads, whichever sections are selected
unfoldable pub pe_parts : List ℕ → List Part
pe_parts file = pointer_part ∷ header_part file ∷ (selected_parts file (places_of file) ++ table_parts file (places_of file))

-- what a reading of the load address reads
abbrev pub pe_load_parts : List ℕ → List Part
pe_load_parts file = pointer_part ∷ header_part file ∷ optional_header_part (places_of file) ∷ []
