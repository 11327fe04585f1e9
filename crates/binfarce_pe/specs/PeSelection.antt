-- The function symbols of the selected sections of a PE file at their addresses in memory, and those of the text by the rule of `pe_answer`.
use Rattle.std.specs.Prelude.{◌≢◌, ℕ, ◌+◌, ◌-◌, ◌*◌, ◌%◌, ◌^◌, ◌<◌, ◌≤◌, Bool, false, ◌&&◌, ◌||◌, not, List, codes, map, Option, Some, None, is_none, unwrap_or, Result, Ok, nat_eq, nat_le, find, if◌then◌else◌}
use Rattle.std.specs.Option.{option_map}
use Rattle.std.specs.List.{range_with_len, flat_map, starts_with}
use Rattle.binfarce_bytes.specs.Number.{bytes_at}
use Rattle.binfarce_bytes.specs.Refusal.{◌>>=◌, Refusal, required, symbols_section_is_missing, if_as_long_as}
use Rattle.binfarce_bytes.specs.Field.{Field, number_in}
use Rattle.binfarce_bytes.specs.Entries.{Entry}
use Rattle.binfarce_bytes.specs.Sizes.{least_of, least_above}
use Rattle.binfarce_bytes.specs.SectionEntries.{SectionEntry, SelectedSymbols, in_section, unless}
use Rattle.binfarce_pe.specs.declared.functions.SelectedSections as code
use Rattle.binfarce_pe.specs.declared.functions.SelectedSections.TheVariants.{Text, Memory}
use Rattle.binfarce_pe.specs.Pe.{Section, header_of, image_base, least_length, section_fields, section_length, is_named}
use Rattle.binfarce_pe.specs.PeNames.{full_name, string_table}
use Rattle.binfarce_pe.specs.PeParts.{TablePlaces, TextPlace, SectionTable, headers_view, places_of, section_table, section_in, table_walk, text_view, whole_in}
use Rattle.binfarce_pe.specs.PeSymbols.{SymbolRow, CoffTable, symbol_table, is_function}
use Rattle.binfarce_pe.specs.PeRules.{SectionRules, text_rules, entries_under}

-- the image base of a file with tables at these places
abbrev pub base_at : List ℕ → TablePlaces → Option ℕ
base_at file places = image_base (bytes_at file places.optional_header places.optional_header_size)

-- where a program or a library is loaded unless the loader chooses another address: at its image base. None without one, as in an object. Refused if the
-- optional header's bytes that state it end past the file
unfoldable pub load_address_at : List ℕ → TablePlaces → Result (Option ℕ) Refusal
load_address_at file places = if_as_long_as (places.optional_header + places.optional_header_size) file (Ok (base_at file places))

-- that of a file that has a header
abbrev pub file_load_address : List ℕ → Result (Option ℕ) Refusal
file_load_address file = if_as_long_as (least_length file) file (load_address_at file (places_of file))

-- a row that is external (class 2) or static (class 3), in the section of this index: its value is the symbol's offset there. Records for a debugger have
-- other values
abbrev pub is_external_or_static : ℕ → SymbolRow ℕ → Bool
is_external_or_static index row = (nat_eq row.storage_class 2 || nat_eq row.storage_class 3) && nat_eq row.section_number (index + 1)

-- a name that compilers and assemblers give to labels within functions: `.l_end`, `L12`, `$LN4`
abbrev pub is_inner : List ℕ → Bool
is_inner name = starts_with nat_eq name (codes ".") || starts_with nat_eq name (codes "L") || starts_with nat_eq name (codes "$")

-- a code label ("Storage Class", class 6) of a routine, in the section of this index: it has no such name. Where its name can't be read it is one too, so that
-- the bytes behind it have no name rather than another function's
abbrev pub is_routine : ℕ → SymbolRow ℕ → Option (List ℕ) → Bool
is_routine index row name = nat_eq row.storage_class 6 && not (unwrap_or (option_map is_inner name) false) && nat_eq row.section_number (index + 1)

-- a row that ends sizes in the section of this index, whatever its type
abbrev pub ends_sizes : ℕ → SymbolRow ℕ → Option (List ℕ) → Bool
ends_sizes index row name = is_external_or_static index row || is_routine index row name

-- a number of the section header of this index
abbrev pub number_of : SectionTable → ℕ → Field → ℕ
number_of sections index field = number_in sections.bytes (sections.offset + index * section_length) field

-- how many bytes the section of this index has in memory: `VirtualSize`, which is 0 in an object; there `SizeOfRawData`
unfoldable pub memory_size : SectionTable → ℕ → ℕ
memory_size sections index =
    let size = number_of sections index section_fields.virtual_size in
    if nat_eq size 0 then number_of sections index section_fields.size_of_raw_data else size

-- where the section of this index begins in memory, modulo 2 ^ 64: at the image base and its `VirtualAddress`. In an object, which has no image base,
-- addresses are counted from the section
unfoldable pub memory_address : Option ℕ → SectionTable → ℕ → ℕ
memory_address None sections index = 0
memory_address (Some base) sections index = (base + number_of sections index section_fields.virtual_address) % 2 ^ 64

-- the sections that are chosen: the text, by the rule of `pe_answer`; or those of a table in a file with this image base, of which all are selected or the
-- code section alone, which has this index, and this size in memory
pub data SelectedSections : Type 0 where
  the_text : TextPlace → SelectedSections
  in_memory : Option ℕ → SectionTable → (code : Option TextPlace) → SelectedSections

-- the size at an offset in a section of this size in memory: up to the least address above that ends sizes, and to the section's end at the latest; 0 at and
-- past that end
abbrev pub size_within : ℕ → List ℕ → ℕ → ℕ
size_within section_size addresses address = least_of section_size (least_above addresses address) - address

-- the rules of the section of this index of a table: external and static functions are kept; external and static rows and labels of routines end sizes
abbrev pub section_rules : SectionTable → ℕ → SectionRules
section_rules sections index = record {
  accepts = λ row. is_function row && is_external_or_static index row;
  ends = ends_sizes index;
  size = size_within (memory_size sections index);
}

-- how the function symbols of chosen sections are listed: the index of the first section, and how many follow from it on; and for each section, by its
-- index, the rules of its rows, and the address for a row's value
pub record Rules : Type 0 where
  pub first : ℕ
  pub count : ℕ
  pub section : ℕ → SectionRules
  pub address : ℕ → ℕ → ℕ

-- the index of the first section that is selected, of all or of the code section alone, and how many are from it on
abbrev pub first_of : Option TextPlace → ℕ
first_of None = 0
first_of (Some code) = code.index

abbrev pub count_of : ℕ → Option TextPlace → ℕ
count_of count None = count
count_of count (Some code) = 1

-- of the text its functions, at their offsets; of sections in memory theirs, at their addresses
abbrev pub rules_of : SelectedSections → Rules
rules_of (the_text text) = record {
  first = text.index;
  count = 1;
  section = λ index. text_rules index text.size;
  address = λ index value. value;
}
rules_of (in_memory base sections code) = record {
  first = first_of code;
  count = count_of sections.count code;
  section = section_rules sections;
  address = λ index value. (memory_address base sections index + value) % 2 ^ 64;
}

-- an entry at the address that this gives for its own
abbrev pub moved : (ℕ → ℕ) → Entry → Entry
moved address entry = record { name = entry.name; address = address entry.address; size = entry.size }

-- the entries of the section of this index, whose number is one more
abbrev pub section_entries : Rules → CoffTable → ℕ → List SectionEntry
section_entries rules symbols index =
    in_section (index + 1) (map (moved (rules.address index)) (entries_under symbols (rules.section index)))

-- the entries of the chosen sections, in the order of their numbers; also of a section whose name isn't UTF-8
abbrev pub entries_by : Rules → CoffTable → List SectionEntry
entries_by rules symbols = flat_map (section_entries rules symbols) (range_with_len rules.first rules.count)

-- the stored name of the section of this number, if there is one and its name is UTF-8
abbrev pub name_of : SectionTable → ℕ → Option (List ℕ)
name_of sections number =
    if nat_eq number 0 then None
    else if nat_le number sections.count then option_map (λ section. section.name) (section_in sections (number - 1))
    else None

-- the size of the section that is selected: of the text in the file, of the code section in memory
abbrev pub section_size : SelectedSections → Option ℕ
section_size (the_text text) = Some text.size
section_size (in_memory base sections code) = option_map (λ code. code.size) code

-- the names of the sections, of which long ones are in the string table, behind the records; the text alone has none
abbrev pub section_name : SelectedSections → CoffTable → ℕ → Option (List ℕ)
section_name (the_text text) symbols = λ number. None
section_name (in_memory base sections code) symbols = λ number. option_map (full_name (string_table symbols.strings)) (name_of sections number)

-- all sections without an image base share addresses
abbrev pub shares_addresses : SelectedSections → Bool
shares_addresses (the_text text) = false
shares_addresses (in_memory base sections code) = is_none base && is_none code

-- the function symbols of chosen sections
abbrev pub symbols_of : SelectedSections → CoffTable → SelectedSymbols
symbols_of chosen symbols =
    record { entries = entries_by (rules_of chosen) symbols; section_size = section_size chosen; section_name = section_name chosen symbols; shares_addresses = shares_addresses chosen; version_name = λ version. None }

-- the section headers, of which none is truncated: else refused as the walk over the sections is
abbrev pub whole_sections : SectionTable → Result SectionTable Refusal
whole_sections sections = unless (table_walk sections).refusal sections

-- the first section `.text` of a table
abbrev pub code_section : SectionTable → Option Section
code_section sections = find (is_named (codes ".text")) (table_walk sections).items

-- the code section where a name is selected, whichever it is, with its size in memory; none where all sections are
abbrev pub code_of : Option (List ℕ) → SectionTable → Result (Option TextPlace) Refusal
code_of None sections = Ok None
code_of (Some name) sections = required symbols_section_is_missing (code_section sections) >>= λ code. Ok (Some (record { index = code.index; size = memory_size sections code.index }))

-- what a selection chooses of a file, or the refusal
abbrev pub sections_in : Option (List ℕ) → List ℕ → Result SelectedSections Refusal
sections_in section file = do
  sections ← whole_sections (section_table file)
  code ← code_of section sections
  Ok (in_memory (base_at file (places_of file)) sections code)

-- the refusals in order: those of the selection and of the symbol table; else the function symbols
unfoldable pub selected_answer : Option (List ℕ) → List ℕ → Result SelectedSymbols Refusal
selected_answer section file = do
  chosen ← sections_in section file
  symbols ← symbol_table file
  Ok (symbols_of chosen symbols)

-- the entries of all sections
abbrev pub all_answer : List ℕ → Result (List SectionEntry) Refusal
all_answer file = selected_answer None file >>= λ selected. Ok selected.entries

-- the file has a section
abbrev pub HasSection : List ℕ → Type 0
HasSection file = (header_of file).number_of_sections ≢ 0

-- the answer of a file that has a header
abbrev pub selected_file_answer : Option (List ℕ) → List ℕ → Result SelectedSymbols Refusal
selected_file_answer section file = if_as_long_as (least_length file) file (selected_answer section file)

-- a `SelectedSections`
abbrev pub sections_view : code.SelectedSections → SelectedSections
sections_view (Text text) = the_text (text_view text)
sections_view (Memory base headers code) = in_memory base (headers_view headers) (option_map text_view code)

-- the code section, if it is selected, is one of so many
abbrev pub IsWithin : Option TextPlace → ℕ → Type 0
IsWithin None count = Unit {0}
IsWithin (Some code) count = code.index < count

-- none of the section headers is truncated, and one is the code section's, if it is selected
abbrev pub IsWhole : SelectedSections → Type 0
IsWhole (the_text text) = Unit {0}
IsWhole (in_memory base sections code) = (sections.count ≤ whole_in sections) × IsWithin code sections.count

-- the section header of this index isn't truncated
abbrev pub HasHeader : SelectedSections → ℕ → Type 0
HasHeader (the_text text) index = Unit {0}
HasHeader (in_memory base sections code) index = index < whole_in sections
