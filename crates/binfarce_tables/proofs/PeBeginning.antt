-- The sections of a PE file, by the bytes that it begins with.
use Rattle.std.proofs.Common.{◌≡◌, ℕ, ◌+◌, ◌*◌, ◌-◌, ◌<◌, ◌≤◌, Bool, true, false, cond, ltb, List, length, drop, min, max, Result, Ok, Err, refl, sym, ap, ap₂, ◌∙◌, arith, inl, inr}
use Rattle.std.proofs.lemmas.Bool.{cases_lt, ltb-false, lt-ltb, le-ltb, le-leb}
use Rattle.std.proofs.lemmas.List.{take_all}
use Rattle.std.proofs.lemmas.Nat.{le-div}
use Rattle.std.specs.List.{range_with_len, filter_map}
use Rattle.binfarce_bytes.specs.declared.ByteOrder.TheVariants.{LittleEndian}
use Rattle.binfarce_bytes.specs.Field.{Field, field, number_in}
use Rattle.binfarce_bytes.specs.Number.{bytes_at, number}
use Rattle.binfarce_bytes.specs.Refusal.{Refusal, unexpected_eof}
use Rattle.binfarce_pe.specs.Pe.{Header, header_after, header_of, header_fields, least_length, signature_offset, sections_offset, section_at, section_of, section_fields, characteristics_at, whole_headers, walk}
use Rattle.binfarce_pe.specs.PeParts.{TablePlaces, places_of, table_walk}
use Rattle.binfarce_tables.specs.BeginningReading.{pe_sections}
use Rattle.binfarce_tables.specs.machine.PePlaces.{headers_at, places_step}
use Rattle.binfarce_tables.proofs.MachoPrefix.{prefix_long, prefix_same}
use Rattle.binfarce_tables.proofs.PeAlone.{filter_map_same}

module _ (file : List ℕ) (n : ℕ) (inside : n ≤ length file) where
  abbrev first : List ℕ
  first = bytes_at file 0 n

  long : length first ≡ n
  long = prefix_long file n inside

  bytes_same : (k width : ℕ) → k + width ≤ n → bytes_at first k width ≡ bytes_at file k width
  bytes_same k width h = prefix_same file n k width inside (omega (arith, h, long))

  number_same : (start : ℕ) (f : Field) → start + f.offset + f.width ≤ n → number_in first start f ≡ number_in file start f
  number_same start f h = ap (number LittleEndian) (bytes_same (start + f.offset) f.width h)

  section_same : (start index : ℕ) → start + 40 ≤ n → section_at first start index ≡ section_at file start index
  unfolding section_at section_fields characteristics_at
  section_same start index h = rw (
    bytes_same (start + 0) 8 (omega (arith, h)),
    number_same start section_fields.virtual_size (omega (arith, h)),
    number_same start section_fields.virtual_address (omega (arith, h)),
    number_same start section_fields.size_of_raw_data (omega (arith, h)),
    number_same start section_fields.pointer_to_raw_data (omega (arith, h)),
    le-leb (start + 40) (length first) (omega (arith, h, long)),
    le-leb (start + 40) (length file) (omega (arith, h, inside)),
    number_same start (field 36 4) (omega (arith, h)),
  ) refl

  -- they hold the stub and the file header
  module _ (stub : 64 ≤ n) (headers : signature_offset file + 24 ≤ n) where
    signature_same : signature_offset first ≡ signature_offset file
    signature_same = ap (number LittleEndian) (bytes_same 0x3C 4 (omega (arith, stub)))

    header_same : header_of first ≡ header_of file
    unfolding header_after header_fields
    header_same = ap (header_after first) signature_same ∙ cc (
      number_same (signature_offset file + 4) header_fields.machine (omega (arith, headers)),
      number_same (signature_offset file + 4) header_fields.number_of_sections (omega (arith, headers)),
      number_same (signature_offset file + 4) header_fields.time_date_stamp (omega (arith, headers)),
      number_same (signature_offset file + 4) header_fields.pointer_to_symbol_table (omega (arith, headers)),
      number_same (signature_offset file + 4) header_fields.number_of_symbols (omega (arith, headers)),
      number_same (signature_offset file + 4) header_fields.size_of_optional_header (omega (arith, headers)),
      number_same (signature_offset file + 4) header_fields.characteristics (omega (arith, headers)),
    )

    -- they hold the section headers, and a byte of the table where it has none
    module _ (begins : sections_offset file < n) (room : sections_offset file + (header_of file).number_of_sections * 40 ≤ n) where
      abbrev count : ℕ
      count = (header_of file).number_of_sections

      offset_same : sections_offset first ≡ sections_offset file
      offset_same = ap₂ (λ (a b : ℕ). a + 24 + b) signature_same (ap (λ (h : Header ℕ). h.size_of_optional_header) header_same)

      count_same : (header_of first).number_of_sections ≡ count
      count_same = ap (λ (h : Header ℕ). h.number_of_sections) header_same

      walk_same : walk first ≡ walk file
      unfolding walk
      walk_same =
          let ours : count ≤ whole_headers first = le-div count (length first + 16 - sections_offset first) 40 (omega arith) (omega (arith, long, offset_same, room)) in
          let theirs : count ≤ whole_headers file = le-div count (length file + 16 - sections_offset file) 40 (omega arith) (omega (arith, inside, room)) in
          let all : min (header_of first).number_of_sections (whole_headers first) ≡ count = omega (arith, ours, count_same) in
          let also : min (header_of file).number_of_sections (whole_headers file) ≡ count = omega (arith, theirs) in
          let items : filter_map (section_of first) (range_with_len 0 count) ≡ filter_map (section_of file) (range_with_len 0 count) =
          filter_map_same (section_of first) (section_of file) 0 count
          (λ i lt. ap (λ (k : ℕ). section_at first (k + i * 40) i) offset_same ∙ section_same (sections_offset file + i * 40) i (omega (arith, lt, room))) in
          rw (
            all,
            also,
            items,
            lt-ltb (sections_offset first) (length first) (omega (arith, long, offset_same, begins)),
            lt-ltb (sections_offset file) (length file) (omega (arith, inside, begins)),
            le-leb (header_of first).number_of_sections (whole_headers first) (omega (arith, ours, count_same)),
            le-leb count (whole_headers file) theirs,
          ) refl

      -- so they are the headers of the table at its place
      pub table_same : table_walk (record { bytes = first; offset = sections_offset file; count = count }) ≡ walk file
      unfolding walk table_walk
      table_same = ap₂ (λ (o n : ℕ). table_walk (record { bytes = first; offset = o; count = n })) (sym offset_same) (sym count_same) ∙ walk_same

      pub sections_same : pe_sections first ≡ pe_sections file
      sections_same = rw (
        le-ltb (length first) (least_length first) (omega (arith, long, stub, headers, signature_same)),
        le-ltb (length file) (least_length file) (omega (arith, inside, stub, headers)),
      ) (ap Ok walk_same)

-- where a file header was read, its places are the file's
pub places_read : (file : List ℕ) (places : TablePlaces) → places_step file ≡ Ok places → (places ≡ places_of file) × (least_length file ≤ length file)
places_read file places step = by_test (ltb (length file) (least_length file)) refl step
  where
    by_test : (b : Bool) → ltb (length file) (least_length file) ≡ b → Path (Result TablePlaces Refusal) (cond b (Err unexpected_eof) (Ok (places_of file))) (Ok places) → (places ≡ places_of file) × (least_length file ≤ length file)
    by_test true is same = absurd cc
    by_test false is same = (cc, ltb-false (length file) (least_length file) is)

-- the bytes up to the end of the section headers, or all
pub sections_held : (file : List ℕ) (places : TablePlaces) (end : ℕ) → places_step file ≡ Ok places
    → end ≡ min (max (places.sections + max (places.section_count * 40) 1) 64) (length file) → pe_sections (bytes_at file 0 end) ≡ pe_sections file
sections_held file places end step is = elim (cases_lt end (length file)) [
  | inl cut ↦
      let said = places_read file places step in
      let sections : places.sections ≡ sections_offset file = ap (λ (p : TablePlaces). p.sections) said.0 in
      let count : places.section_count ≡ (header_of file).number_of_sections = ap (λ (p : TablePlaces). p.section_count) said.0 in
      let least : places.sections + max (places.section_count * 40) 1 ≤ end = omega (arith, is, cut) in
      sections_same file end (omega (arith, cut)) (omega (arith, is, cut)) (omega (arith, least, sections)) (omega (arith, least, sections)) (omega (arith, least, sections, count))
  | inr all ↦ ap pe_sections (take_all end (drop 0 file) all)
]

-- their table at its place
pub table_held : (file : List ℕ) (places : TablePlaces) (end : ℕ) → places_step file ≡ Ok places
    → end ≡ min (max (places.sections + max (places.section_count * 40) 1) 64) (length file) → table_walk (headers_at (bytes_at file 0 end) places) ≡ walk file
unfolding walk table_walk
table_held file places end step is =
    let said = places_read file places step in
    let sections : places.sections ≡ sections_offset file = ap (λ (p : TablePlaces). p.sections) said.0 in
    let count : places.section_count ≡ (header_of file).number_of_sections = ap (λ (p : TablePlaces). p.section_count) said.0 in
    ap₂ (λ (o n : ℕ). table_walk (record { bytes = bytes_at file 0 end; offset = o; count = n })) sections count ∙ elim (cases_lt end (length file)) [
      | inl cut ↦
          let least : places.sections + max (places.section_count * 40) 1 ≤ end = omega (arith, is, cut) in
          table_same file end (omega (arith, cut)) (omega (arith, is, cut)) (omega (arith, least, sections)) (omega (arith, least, sections)) (omega (arith, least, sections, count))
      | inr all ↦ ap (λ (bytes : List ℕ). table_walk (record { bytes = bytes; offset = sections_offset file; count = (header_of file).number_of_sections })) (take_all end (drop 0 file) all)
    ]
