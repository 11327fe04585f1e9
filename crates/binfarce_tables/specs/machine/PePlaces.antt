-- Views of a reading of a PE file's parts, for private clauses.
use Rattle.std.specs.Prelude.{ℕ, ◌+◌, ◌-◌, ◌*◌, List, length, drop, min, Option, Result, Ok, Err, nat_le, if◌then◌else◌}
use Rattle.std.specs.Option.{option_map}
use Rattle.binfarce_bytes.specs.Number.{bytes_at}
use Rattle.binfarce_bytes.specs.Refusal.{◌>>=◌, Refusal, unexpected_eof, if_as_long_as}
use Rattle.binfarce_bytes.specs.SectionEntries.{unless}
use Rattle.binfarce_pe.specs.Pe.{least_length, signature_offset, section_length}
use Rattle.binfarce_pe.specs.PeParts.{TablePlaces, places_of, SectionTable, headers_alone, table_walk, text_view}
use Rattle.binfarce_pe.specs.PeSelection.{SelectedSections, in_memory, code_of, base_at}
use Rattle.binfarce_pe.specs.PeSymbols.{CoffTable}
use Rattle.binfarce_tables.specs.declared.pe.Records.{Records}
use Rattle.binfarce_tables.specs.declared.pe.Sections.{Sections}

-- the signature's offset, where the file has the stub that states it
abbrev pub signature_step : List ℕ → Result ℕ Refusal
signature_step file = if_as_long_as 64 file (Ok (signature_offset file))

-- the places of the file's tables, if it has a file header
abbrev pub places_step : List ℕ → Result TablePlaces Refusal
places_step file = if_as_long_as (least_length file) file (Ok (places_of file))

-- the section table at its place
abbrev pub headers_at : List ℕ → TablePlaces → SectionTable
headers_at file places = record { bytes = file; offset = places.sections; count = places.section_count }

-- the symbol table at its place
abbrev pub table_at : List ℕ → TablePlaces → Result CoffTable Refusal
table_at file places =
    if nat_le (length file) places.symbols then Err unexpected_eof
    else if_as_long_as (places.symbols + places.symbols_size) file (Ok (record { rows = bytes_at file places.symbols places.symbols_size; strings = drop (places.symbols + places.symbols_size) file }))

-- the section headers alone, as many bytes of them as the file has
abbrev pub alone_at : List ℕ → TablePlaces → SectionTable
alone_at file places = headers_alone (bytes_at file places.sections (min (places.section_count * section_length) (length file - places.sections))) places.section_count

-- of which none is truncated
abbrev pub whole_at : List ℕ → TablePlaces → Result SectionTable Refusal
whole_at file places = unless (table_walk (headers_at file places)).refusal (alone_at file places)

-- what a selection chooses
abbrev pub chosen_at : Option (List ℕ) → List ℕ → TablePlaces → Result SelectedSections Refusal
chosen_at section file places = do
  sections ← whole_at file places
  code ← code_of section sections
  Ok (in_memory (base_at file places) sections code)

-- the sections that were read
abbrev pub read_view : Sections → SelectedSections
read_view s = in_memory s.base (headers_alone s.headers.items s.count) (option_map text_view s.code)

-- the symbol table that was read
abbrev pub records_view : Records → CoffTable
records_view r = record { rows = r.rows.items; strings = r.strings.items }
