-- What the file header and the section headers say, read from their bytes alone.
use Rattle.std.proofs.Common.{◌≡◌, ℕ, zero, suc, ◌+◌, ◌*◌, ◌-◌, ◌/◌, ◌<◌, ◌≤◌, leb, List, length, drop, min, Option, Result, Ok, Err, refl, ap, ap₂, ◌∙◌, arith, inl, inr, length-drop, codes}
use Rattle.std.proofs.lemmas.Bool.{cases_lt, lt-ltb, le-ltb, lt-leb, le-leb}
use Rattle.std.proofs.lemmas.List.{length-take-le}
use Rattle.std.proofs.lemmas.Nat.{le-div, div_below}
use Rattle.std.specs.List.{range_with_len, filter_map, cons_option}
use Rattle.binfarce_bytes.specs.declared.ByteOrder.TheVariants.{LittleEndian}
use Rattle.binfarce_bytes.specs.Field.{field}
use Rattle.binfarce_bytes.specs.Number.{bytes_at}
use Rattle.binfarce_bytes.specs.Refusal.{◌>>=◌, Refusal, required, symbols_section_is_missing, unexpected_eof}
use Rattle.binfarce_bytes.specs.Walk.{Walk, first}
use Rattle.binfarce_pe.specs.Pe.{header_after, header_fields, Section, section_at, section_fields, characteristics_at, section_length, is_named}
use Rattle.binfarce_pe.specs.PeParts.{TablePlaces, SectionTable, TextPlace, headers_alone, section_in, whole_in, table_walk, text_place}
use Rattle.binfarce_tables.specs.machine.PePlaces.{headers_at}
use Rattle.binfarce_tables.proofs.HeadersAlone.{bytes_in, value_in, turned}

-- the text of the section table at its place
abbrev pub text_at : List ℕ → TablePlaces → Result TextPlace Refusal
text_at file places = text_place (headers_at file places)

-- the bytes that a section table has in the file
abbrev pub headers_of : List ℕ → TablePlaces → List ℕ
headers_of file places = bytes_at file places.sections (min (places.section_count * section_length) (length file - places.sections))

-- the file header within its bytes
pub header_alone : (file : List ℕ) (signature : ℕ) → header_after (bytes_at file signature 24) 0 ≡ header_after file signature
unfolding header_after header_fields
header_alone file signature = cc (
  value_in LittleEndian file signature 24 4 header_fields.machine (omega arith),
  value_in LittleEndian file signature 24 4 header_fields.number_of_sections (omega arith),
  value_in LittleEndian file signature 24 4 header_fields.time_date_stamp (omega arith),
  value_in LittleEndian file signature 24 4 header_fields.pointer_to_symbol_table (omega arith),
  value_in LittleEndian file signature 24 4 header_fields.number_of_symbols (omega arith),
  value_in LittleEndian file signature 24 4 header_fields.size_of_optional_header (omega arith),
  value_in LittleEndian file signature 24 4 header_fields.characteristics (omega arith),
)

-- the flags of a section header within a part, of which no byte is missing that the file has
flags_part : (file : List ℕ) (start len k : ℕ) → length (bytes_at file start len) ≡ len → (len < k + 40 → length file < start + k + 40) → (k + 40 ≤ len → start + k + 40 ≤ length file)
    → characteristics_at (bytes_at file start len) k ≡ characteristics_at file (start + k)
unfolding characteristics_at
flags_part file start len k long cut whole = elim (cases_lt len (k + 40)) [
  | inl short ↦ rw (lt-leb (k + 40) (length (bytes_at file start len)) (omega (arith, short, long)), lt-leb (start + k + 40) (length file) (cut short)) refl
  | inr room ↦ rw (
    le-leb (k + 40) (length (bytes_at file start len)) (omega (arith, room, long)),
    le-leb (start + k + 40) (length file) (whole room),
  ) (value_in LittleEndian file start len k (field 36 4) (omega (arith, room)))
]

-- a section header within a part
section_part : (file : List ℕ) (start len k index : ℕ) → k + 24 ≤ len → characteristics_at (bytes_at file start len) k ≡ characteristics_at file (start + k)
    → section_at (bytes_at file start len) k index ≡ section_at file (start + k) index
unfolding section_at section_fields
section_part file start len k index h flags = rw (
  bytes_in file start len (k + 0) 8 (omega (arith, h)) ∙ ap (λ n. bytes_at file n 8) (turned start k 0),
  value_in LittleEndian file start len k section_fields.virtual_size (omega (arith, h)),
  value_in LittleEndian file start len k section_fields.virtual_address (omega (arith, h)),
  value_in LittleEndian file start len k section_fields.size_of_raw_data (omega (arith, h)),
  value_in LittleEndian file start len k section_fields.pointer_to_raw_data (omega (arith, h)),
  flags,
) refl

-- functions that agree on so many numbers
pub filter_map_same : {X : Type 0} (f g : ℕ → Option X) (a n : ℕ) → ((i : ℕ) → i < a + n → f i ≡ g i) → filter_map f (range_with_len a n) ≡ filter_map g (range_with_len a n)
filter_map_same f g a zero agree = refl
filter_map_same f g a (suc n) agree = ap₂ cons_option (agree a (omega arith)) (filter_map_same f g (a + 1) n (λ i lt. agree i (omega arith)))

-- so many headers have room in as many bytes, and no more
whole_count : (n : ℕ) → (n * 40 + 16 - 0) / 40 ≡ n
whole_count n =
    let least : n ≤ (n * 40 + 16 - 0) / 40 = le-div n (n * 40 + 16 - 0) 40 (omega arith) (omega arith) in
    let most : (n * 40 + 16 - 0) / 40 < n + 1 = div_below (n * 40 + 16 - 0) 40 (n + 1) (omega arith) (omega arith) in
    omega (arith, least, most)

module _ (file : List ℕ) (places : TablePlaces) (inside : places.sections < length file) where
  abbrev count : ℕ
  count = places.section_count

  abbrev size : ℕ
  size = min (count * 40) (length file - places.sections)

  abbrev table : SectionTable
  table = headers_at file places

  abbrev alone : SectionTable
  alone = headers_alone (headers_of file places) count

  headers_long : length (headers_of file places) ≡ size
  headers_long = length-take-le size (drop places.sections file) (rw (length-drop places.sections file) (omega arith))

  -- either all headers have room, in the file and alone, or as many in both
  rooms : (len : ℕ) → len ≡ size → (min count ((len + 16 - 0) / 40) ≡ min count (whole_in table)) × (leb count ((len + 16 - 0) / 40) ≡ leb count (whole_in table))
  rooms len long = elim (cases_lt (length file - places.sections) (count * 40)) [
    | inl cut ↦
        let as_many : len + 16 - 0 ≡ length file + 16 - places.sections = omega (arith, long, cut, inside) in (
          ap (λ n. min count (n / 40)) as_many,
          ap (λ n. leb count (n / 40)) as_many,
        )
    | inr room ↦
        let all : len + 16 - 0 ≡ count * 40 + 16 - 0 = omega (arith, long, room) in
        let whole : (len + 16 - 0) / 40 ≡ count = ap (λ n. n / 40) all ∙ whole_count count in
        let more : count ≤ whole_in table = le-div count (length file + 16 - places.sections) 40 (omega arith) (omega (arith, room)) in (
          omega (arith, whole, more),
          rw (whole, le-leb count count (omega arith), le-leb count (whole_in table) more) refl,
        )
  ]

  pub same_header : (i : ℕ) → i < min count (whole_in table) → section_in alone i ≡ section_in table i
  same_header i lt =
      let short : (i + 1) * 40 ≤ length file + 16 - places.sections = fits i (length file + 16 - places.sections) (omega (arith, lt)) in
      let flags = flags_part file places.sections size (i * 40) headers_long (λ cut. omega (arith, cut, lt, inside)) (λ room. omega (arith, room, inside)) in
      ap (λ k. section_at (headers_of file places) k i) (from_start (i * 40)) ∙ section_part file places.sections size (i * 40) i (omega (arith, lt, short, inside)) flags
    where
      from_start : (n : ℕ) → 0 + n ≡ n
      from_start n = omega arith

      fits : (i n : ℕ) → i < n / 40 → (i + 1) * 40 ≤ n
      fits i n lt = grind arith

  -- the sections among the headers alone are the file's
  pub headers_items : (table_walk alone).items ≡ (table_walk table).items
  unfolding table_walk
  headers_items =
      ap (λ (m : ℕ). filter_map (section_in alone) (range_with_len 0 m)) (rooms (length (headers_of file places)) headers_long).0
      ∙ filter_map_same (section_in alone) (section_in table) 0 (min count (whole_in table)) (λ i lt. same_header i (omega (arith, lt)))

  headers_walk : 0 < count → table_walk alone ≡ table_walk table
  unfolding table_walk
  headers_walk any =
      let some : 0 < length (headers_of file places) = omega (arith, headers_long, any, inside) in
      let both = rooms (length (headers_of file places)) headers_long in
      ap₂ (λ (xs : List Section) (end : Option Refusal). record { items = xs; refusal = end }) headers_items
      (rw (lt-ltb 0 (length (headers_of file places)) some, lt-ltb places.sections (length file) inside, both.1) refl)

  pub text_alone : 0 < count → text_place alone ≡ text_at file places
  text_alone any = ap text_by (headers_walk any)
    where
      text_by : Walk Section → Result TextPlace Refusal
      text_by sections = (first (λ section. is_named (codes ".text") section) sections >>= required symbols_section_is_missing) >>= λ text. Ok (record { index = text.index; size = text.size_of_raw_data })

-- no section among no headers
pub text_of_none : (file : List ℕ) (places : TablePlaces) → places.sections < length file → places.section_count ≡ 0 → text_at file places ≡ Err symbols_section_is_missing
unfolding table_walk
text_of_none file places inside none =
    let nothing : min places.section_count (whole_in (headers_at file places)) ≡ 0 = omega (arith, none) in
    rw (nothing, lt-ltb places.sections (length file) inside, le-leb places.section_count (whole_in (headers_at file places)) (omega (arith, none))) refl

-- none, where the headers don't begin in the file
pub text_outside : (file : List ℕ) (places : TablePlaces) → length file ≤ places.sections → text_at file places ≡ Err unexpected_eof
unfolding table_walk
text_outside file places past =
    let little : (length file + 16 - places.sections) / 40 < 1 = div_below (length file + 16 - places.sections) 40 1 (omega arith) (omega (arith, past)) in
    let nothing : min places.section_count (whole_in (headers_at file places)) ≡ 0 = omega (arith, little) in
    rw (nothing, le-ltb places.sections (length file) past) refl
