-- The section headers of a PE file, of which none is truncated, by what was read of it.
use Rattle.std.proofs.Common.{◌≡◌, ℕ, zero, suc, ◌+◌, ◌*◌, ◌-◌, ◌/◌, ◌%◌, ◌^◌, ◌<◌, ◌≤◌, Bool, true, false, cond, ltb, leb, ◌&&◌, List, ◌++◌, length, min, map, Vec, Global, Option, Some, None, Result, Ok, Err, inl, inr, refl, sym, ap, ap₂, ◌∙◌, arith, codes}
use Rattle.std.proofs.Math.Path.{fun_ext}
use Rattle.std.proofs.lemmas.Bool.{cases_lt, cases_eq, eq-eqb, ne_eqb, lt-ltb, le-ltb, lt-leb, le-leb, ltb-true, leb-true}
use Rattle.std.proofs.lemmas.Nat.{le-div, div_below}
use Rattle.std.specs.Prelude.{find, is_none}
use Rattle.std.specs.List.{range_with_len, flat_map}
use Rattle.std.specs.Option.{option_map}
use Rattle.binfarce_bytes.specs.declared.ByteOrder.TheVariants.{LittleEndian}
use Rattle.binfarce_bytes.specs.Field.{Field, value_at}
use Rattle.binfarce_bytes.specs.Number.{bytes_at}
use Rattle.binfarce_bytes.specs.Refusal.{◌>>=◌, Refusal, required, symbols_section_is_missing, unexpected_eof}
use Rattle.binfarce_bytes.specs.SectionEntries.{SectionEntry, in_section}
use Rattle.binfarce_pe.specs.Pe.{Section, section_fields, is_named}
use Rattle.binfarce_pe.specs.PeNames.{full_name, string_table}
use Rattle.binfarce_pe.specs.PeParts.{TablePlaces, TextPlace, SectionTable, headers_alone, whole_in, table_walk}
use Rattle.binfarce_pe.specs.PeSelection.{in_memory, first_of, count_of, code_section, code_of, IsWithin, is_external_or_static, ends_sizes, number_of, memory_size, memory_address, moved, size_within, rules_of, section_entries, entries_by, name_of, symbols_of}
use Rattle.binfarce_pe.specs.PeSymbols.{CoffTable, is_function}
use Rattle.binfarce_pe.specs.PeRules.{entries_under}
use Rattle.binfarce_tables.specs.machine.PePlaces.{headers_at, alone_at, whole_at}
use Rattle.binfarce_tables.specs.declared.error.ReadError.{ReadError}
use Rattle.binfarce_tables.specs.declared.error.ReadError.TheVariants.{Refused, Unreadable, OutOfMemory}
use Rattle.binfarce_tables.specs.Reading.{Reads}
use Rattle.binfarce_tables.proofs.HeadersAlone.{value_in}
use Rattle.binfarce_pe.proofs.Selected.{code_below}
use Rattle.binfarce_tables.proofs.PeAlone.{headers_items, same_header}
use Rattle.binfarce_tables.proofs.Readings.{taken}

-- functions that agree on so many numbers
flat_map_same : {X : Type 0} (f g : ℕ → List X) (a n : ℕ) → ((i : ℕ) → i < a + n → f i ≡ g i) → flat_map f (range_with_len a n) ≡ flat_map g (range_with_len a n)
flat_map_same f g a zero agree = refl
flat_map_same f g a (suc n) agree = ap₂ (λ xs ys. xs ++ ys) (agree a (omega arith)) (flat_map_same f g (a + 1) n (λ i lt. agree i (omega arith)))

module _ (file : List ℕ) (places : TablePlaces) where
  abbrev table : SectionTable
  table = headers_at file places

  abbrev alone : SectionTable
  alone = alone_at file places

  -- what is refused, and what isn't
  pub outside : length file ≤ places.sections → whole_at file places ≡ Err unexpected_eof
  unfolding table_walk
  outside past = rw (le-ltb places.sections (length file) past) refl

  pub truncated : places.sections < length file → length file - places.sections < places.section_count * 40 - 16 → whole_at file places ≡ Err unexpected_eof
  unfolding table_walk
  truncated begins cut =
      let few : whole_in table < places.section_count = div_below (length file + 16 - places.sections) 40 places.section_count (omega arith) (omega arith) in
      rw (lt-ltb places.sections (length file) begins, lt-leb places.section_count (whole_in table) few) refl

  room : places.sections < length file → places.section_count * 40 - 16 ≤ length file - places.sections → places.section_count ≤ whole_in table
  room begins fits = le-div places.section_count (length file + 16 - places.sections) 40 (omega arith) (omega arith)

  pub whole : places.sections < length file → places.section_count * 40 - 16 ≤ length file - places.sections → whole_at file places ≡ Ok alone
  unfolding table_walk
  whole begins fits = rw (lt-ltb places.sections (length file) begins, le-leb places.section_count (whole_in table) (room begins fits)) refl

  -- if none is truncated, the section headers alone say the same
  module _ (begins : places.sections < length file) (all : places.section_count ≤ whole_in table) where
    fits : (i : ℕ) → i < places.section_count → i * 40 + 24 ≤ min (places.section_count * 40) (length file - places.sections)
    fits i lt = let least : places.section_count * 40 ≤ length file + 16 - places.sections = most places.section_count (length file + 16 - places.sections) all in omega (arith, least, lt, begins)
      where
        most : (n len : ℕ) → n ≤ len / 40 → n * 40 ≤ len
        most n len le = grind arith

    number_same : (i : ℕ) (f : Field) → i < places.section_count → f.offset + f.width ≤ 24 → number_of alone i f ≡ number_of table i f
    number_same i f lt inside =
        ap (λ (k : ℕ). value_at LittleEndian alone.bytes k f) (from_start (i * 40))
        ∙ value_in LittleEndian file places.sections (min (places.section_count * 40) (length file - places.sections)) (i * 40) f (omega (arith, fits i lt, inside))
      where
        from_start : (n : ℕ) → 0 + n ≡ n
        from_start n = omega arith

    size_same : (i : ℕ) → i < places.section_count → memory_size alone i ≡ memory_size table i
    unfolding memory_size section_fields
    size_same i lt = rw (number_same i section_fields.virtual_size lt (omega arith), number_same i section_fields.size_of_raw_data lt (omega arith)) refl

    address_same : (base : Option ℕ) (i : ℕ) → i < places.section_count → memory_address base alone i ≡ memory_address base table i
    unfolding memory_address section_fields
    address_same None i lt = refl
    address_same (Some base) i lt = ap (λ (n : ℕ). (base + n) % 2 ^ 64) (number_same i section_fields.virtual_address lt (omega arith))

    -- the entries of sections of which each is one of the table's
    entries_same : (base : Option ℕ) (code : Option TextPlace) (symbols : CoffTable) → first_of code + count_of places.section_count code ≤ places.section_count
        → entries_by (rules_of (in_memory base alone code)) symbols ≡ entries_by (rules_of (in_memory base table code)) symbols
    entries_same base code symbols within =
        flat_map_same (section_entries (rules_of (in_memory base alone code)) symbols) (section_entries (rules_of (in_memory base table code)) symbols) (first_of code) (count_of places.section_count code)
        (λ i lt. ap₂ (λ (start size : ℕ). in_section (i + 1) (map (moved (λ value. (start + value) % 2 ^ 64)) (entries_under symbols (record { accepts = λ row. is_function row && is_external_or_static i row; ends = ends_sizes i; size = size_within size })))) (address_same base i (omega (arith, lt, within))) (size_same i (omega (arith, lt, within))))

    name_same : (number : ℕ) → name_of alone number ≡ name_of table number
    name_same number = elim (cases_eq number 0) [
      | inl none ↦ rw (eq-eqb number 0 none) refl
      | inr some ↦ elim (cases_lt places.section_count number) [
        | inl past ↦ rw (ne_eqb number 0 some, lt-leb number places.section_count past) refl
        | inr le ↦ rw (ne_eqb number 0 some, le-leb number places.section_count le) (ap (option_map (λ (section : Section). section.name)) (same_header file places begins (number - 1) (omega (arith, some, le, all))))
      ]
    ]

    full_same : (strings : List ℕ) (number : ℕ) → option_map (full_name (string_table strings)) (name_of alone number) ≡ option_map (full_name (string_table strings)) (name_of table number)
    full_same strings number = ap (option_map (full_name (string_table strings))) (name_same number)

    -- a code section is one of them
    pub within_all : (code : Option TextPlace) → IsWithin code places.section_count → first_of code + count_of places.section_count code ≤ places.section_count
    within_all None within = omega arith
    within_all (Some code) within = omega (arith, within)

    pub view_same : (base : Option ℕ) (code : Option TextPlace) (symbols : CoffTable) → IsWithin code places.section_count → symbols_of (in_memory base alone code) symbols ≡ symbols_of (in_memory base table code) symbols
    view_same base code symbols within =
        ap₂ (λ (es : List SectionEntry) (names : ℕ → Option (List ℕ)). record { entries = es; section_size = option_map (λ c. c.size) code; section_name = names; shares_addresses = is_none base && is_none code; version_name = λ version. None })
        (entries_same base code symbols (within_all code within)) (fun_ext (full_same symbols.strings))

    -- and the code section is the same
    pub code_same : (section : Option (List ℕ)) → code_of section alone ≡ code_of section table
    code_same None = refl
    code_same (Some name) = ap of_item (ap (find (is_named (codes ".text"))) (headers_items file places begins)) ∙ by_item (code_section table) refl
      where
        of_item : Option Section → Result (Option TextPlace) Refusal
        of_item item = required symbols_section_is_missing item >>= λ code. Ok (Some (record { index = code.index; size = memory_size alone code.index }))

        by_item : (item : Option Section) → code_section table ≡ item → of_item item ≡ (required symbols_section_is_missing item >>= λ code. Ok (Some (record { index = code.index; size = memory_size table code.index })))
        by_item None is = refl
        by_item (Some code) is = ap (λ (size : ℕ). Ok (Some (record { index = code.index; size = size }))) (size_same code.index (code_below table code is))

  -- where nothing is refused, none is truncated
  pub held : (table_walk table).refusal ≡ None → (places.sections < length file) × (places.section_count ≤ whole_in table)
  unfolding table_walk
  held none =
      let both = parts (ltb places.sections (length file)) (leb places.section_count (whole_in table)) none in
      (ltb-true places.sections (length file) both.0, leb-true places.section_count (whole_in table) both.1)
    where
      parts : (a b : Bool) → cond (a && b) None (Some unexpected_eof) ≡ None → (a ≡ true) × (b ≡ true)
      parts true true e = (refl, refl)
      parts true false e = absurd cc
      parts false true e = absurd cc
      parts false false e = absurd cc

-- the section headers that were read
pub headers_read : (fails : Bool) (file : List ℕ) (places : TablePlaces) (size : ℕ) (r : Result (Vec ℕ Global) ReadError) → size ≡ min (places.section_count * 40) (length file - places.sections) → whole_at file places ≡ Ok (alone_at file places)
    → Reads fails (λ v. v.items) (Ok (bytes_at file places.sections size)) r → Reads fails (λ v. headers_alone v.items places.section_count) (whole_at file places) r
headers_read fails file places size r is whole reads = rw whole (by_result r (rw is at reads))
  where
    by_result : (r : Result (Vec ℕ Global) ReadError) → Reads fails (λ v. v.items) (Ok (alone_at file places).bytes) r → Reads fails (λ v. headers_alone v.items places.section_count) (Ok (alone_at file places)) r
    by_result (Ok v) read = ap (λ (bytes : List ℕ). Ok (headers_alone bytes places.section_count)) (sym (taken read))
    by_result (Err (Refused p)) read = absurd cc
    by_result (Err Unreadable) read = read
    by_result (Err OutOfMemory) read = read
