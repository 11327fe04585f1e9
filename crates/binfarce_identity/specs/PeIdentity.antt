-- The identity of a PE file: the GUID and the age of its CodeView record (Microsoft PE Format, "The .debug Section"; LLVM, "The PDB Info Stream").
use Rattle.std.specs.Prelude.{ℕ, zero, suc, ◌+◌, ◌-◌, ◌*◌, ◌/◌, ◌&&◌, List, [], ◌∷◌, length, Option, Some, None, Ok, Err, min, nat_eq, nat_lt, nat_le, if◌then◌else◌}
use Rattle.std.specs.Str.{bytes_eq}
use Rattle.binfarce_bytes.specs.declared.ByteOrder.TheVariants.{LittleEndian}
use Rattle.binfarce_bytes.specs.Field.{field, number_in}
use Rattle.binfarce_bytes.specs.Number.{bytes_at, number}
use Rattle.binfarce_bytes.specs.Refusal.{malformed_input}
use Rattle.binfarce_pe.specs.Pe.{header_after, section_length, section_fields}
use Rattle.binfarce_pe.specs.PeParts.{TablePlaces, places_after}
use Rattle.binfarce_identity.specs.Identity.{Answer, identity}
use Rattle.binfarce_tables.specs.Readings.{answered, with_part}
use Rattle.binfarce_identity.specs.Reading.{Reading}
use Rattle.binfarce_identity.specs.declared.identity.Kind.TheVariants.{CodeView}

-- a place of so many bytes: in memory, counted from the image base, or in the file
pub record Place : Type 0 where
  pub at : ℕ
  pub size : ℕ

-- where the data directories begin in an optional header, by its magic number: PE32 or PE32+. Their number is in the 4 bytes before
abbrev pub directories_offset : (header : List ℕ) → Option ℕ
directories_offset header =
    let magic = number_in header 0 (field 0 2) in
    if nat_lt (length header) 2 then None
    else if nat_eq magic 0x10B then Some 96
    else if nat_eq magic 0x20B then Some 112
    else None

-- the debug directory is data directory 6; each has 8 bytes, an address and a size. None if there are fewer, or the size is 0
abbrev pub debug_in : (header : List ℕ) → Option ℕ → Option Place
debug_in header None = None
debug_in header (Some start) =
    if nat_lt (length header) (start + 56) then None
    else if nat_lt (number_in header (start - 4) (field 0 4)) 7 then None
    else if nat_eq (number_in header (start + 48) (field 4 4)) 0 then None
    else Some (record { at = number_in header (start + 48) (field 0 4); size = number_in header (start + 48) (field 4 4) })

unfoldable pub debug_directory : (header : List ℕ) → Option Place
debug_directory header = debug_in header (directories_offset header)

-- as many bytes of an optional header as say it
abbrev pub optional_header_read : ℕ
optional_header_read = 168

-- the first one of two, if there is one
abbrev pub or_later : {A : Type 0} → Option A → Option A → Option A
or_later (Some x) later = Some x
or_later None later = later

-- where a place in memory is in the file, if the raw data of the section whose header begins at start has all of it
abbrev pub offset_in : (headers : List ℕ) → Place → (start : ℕ) → Option ℕ
offset_in headers place start =
    let address = number_in headers start section_fields.virtual_address in
    if nat_le address place.at && nat_le (place.at + place.size) (address + number_in headers start section_fields.size_of_raw_data)
    then Some (number_in headers start section_fields.pointer_to_raw_data + (place.at - address))
    else None

-- by the first of n sections from this index on that has it
unfoldable pub offset_from : (headers : List ℕ) → Place → (n index : ℕ) → Option ℕ
offset_from headers place zero index = None
offset_from headers place (suc n) index = or_later (offset_in headers place (index * section_length)) (offset_from headers place n (index + 1))

-- an entry of the debug directory has 28 bytes: its type at 12, the size of its data at 16, and their offset in the file at 24. CodeView's type is 2
abbrev pub entry_length : ℕ
entry_length = 28

-- the data of the entry that begins at start, if it has this type
abbrev pub data_in : (entries : List ℕ) → (start : ℕ) → Option Place
data_in entries start =
    if nat_eq (number_in entries start (field 12 4)) 2
    then Some (record { at = number_in entries start (field 24 4); size = number_in entries start (field 16 4) })
    else None

-- of the first of n entries from this index on that has it
unfoldable pub data_from : (entries : List ℕ) → (n index : ℕ) → Option Place
data_from entries zero index = None
data_from entries (suc n) index = or_later (data_in entries (index * entry_length)) (data_from entries n (index + 1))

abbrev pub codeview_data : (entries : List ℕ) → Option Place
codeview_data entries = data_from entries (length entries / entry_length) 0

-- a CodeView record of PDB 7.0 has 24 bytes before the name of the PDB file: "RSDS", the GUID, and the age. One of another signature has no GUID
abbrev pub record_length : ℕ
record_length = 24

abbrev pub rsds : List ℕ
rsds = 82 ∷ 83 ∷ 68 ∷ 83 ∷ []

unfoldable pub codeview_in : (bytes : List ℕ) → Answer
codeview_in bytes = if bytes_eq (bytes_at bytes 0 4) rsds then Ok (Some (identity CodeView (bytes_at bytes 4 20))) else Ok None

-- that of the record at a place in the file; a shorter one is malformed
abbrev pub record_reading : Option Place → Reading
record_reading None = answered (Ok None)
record_reading (Some place) =
    if nat_lt place.size record_length then answered (Err malformed_input) else with_part place.at record_length (λ bytes. answered (codeview_in bytes))

-- of the directory of this size at an offset in the file; where no section has it, the file is malformed
abbrev pub entries_reading : (size : ℕ) → Option ℕ → Reading
entries_reading size None = answered (Err malformed_input)
entries_reading size (Some offset) = with_part offset size (λ entries. record_reading (codeview_data entries))

-- of the directory at a place in memory, in a file with tables at these places
unfoldable pub directory_reading : TablePlaces → Option Place → Reading
directory_reading places None = answered (Ok None)
directory_reading places (Some place) =
    with_part places.sections (places.section_count * section_length)
    (λ headers. entries_reading place.size (offset_from headers place places.section_count 0))

-- of a file with tables at these places
unfoldable pub places_reading : TablePlaces → Reading
places_reading places =
    with_part places.optional_header (min (places.sections - places.optional_header) optional_header_read)
    (λ header. directory_reading places (debug_directory header))

-- of a file: the offset of the signature, the signature and the file header state these places
unfoldable pub pe_reading : Reading
pe_reading = with_part 0x3C 4 (λ pointer.
    let signature = number LittleEndian (bytes_at pointer 0 4) in
    with_part signature 24 (λ headers. places_reading (places_after signature (header_after headers 0))))
