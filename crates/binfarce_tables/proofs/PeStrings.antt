-- The string table of a PE file, by what is read of it.
use Rattle.std.proofs.Common.{◌≡◌, ℕ, ◌+◌, ◌-◌, ◌≤◌, true, false, List, [], length, take, drop, min, Some, None, refl, sym, ap, ◌∙◌, arith, inl, inr, length-drop, length-take}
use Rattle.std.proofs.lemmas.Bool.{cases_lt, cases_eq, eq-eqb, ne_eqb, lt-ltb, le-ltb, lt-leb, le-leb}
use Rattle.std.proofs.lemmas.List.{take_all, take_min}
use Rattle.binfarce_bytes.specs.declared.ByteOrder.TheVariants.{LittleEndian}
use Rattle.binfarce_bytes.specs.Field.{field, number_in}
use Rattle.binfarce_bytes.specs.Number.{bytes_at, number}
use Rattle.binfarce_pe.specs.Pe.{walk}
use Rattle.binfarce_pe.specs.PeNames.{has_long_names, string_table, strings_offset, strings_of}
use Rattle.binfarce_pe.specs.PeParts.{places_of}
use Rattle.binfarce_tables.specs.PeReading.{needed_strings}
use Rattle.binfarce_tables.specs.PeReads.{strings_at}

-- the length that it states
number_there : (file : List ℕ) (offset : ℕ) → number LittleEndian (bytes_at file offset 4) ≡ number_in file offset (field 0 4)
number_there file offset = ap (λ (k : ℕ). number LittleEndian (bytes_at file k 4)) (from_start offset)
  where
    from_start : (n : ℕ) → n ≡ n + 0
    from_start n = omega arith

pub size_read : (file head : List ℕ) (offset : ℕ) → head ≡ bytes_at file offset 4 → number LittleEndian (bytes_at head 0 4) ≡ number_in file offset (field 0 4)
size_read file head offset is =
    ap (λ (h : List ℕ). number LittleEndian (bytes_at h 0 4)) is
    ∙ ap (number LittleEndian) (take_all 4 (take 4 (drop offset file)) (omega (arith, length-take 4 (drop offset file)))) ∙ number_there file offset

-- as many bytes, or those that the file has
pub table_read : (file : List ℕ) (offset size : ℕ) → offset + 4 ≤ length file → size ≡ min (number_in file offset (field 0 4)) (length file - offset) → bytes_at file offset size ≡ string_table (drop offset file)
unfolding string_table
table_read file offset size room is =
    let long = length-drop offset file in
    let n = number_in file offset (field 0 4) in
    rw (le-ltb (length (drop offset file)) 4 (omega (arith, long, room)))
    (ap (λ (k : ℕ). take k (drop offset file)) (is ∙ ap (min n) (sym long)) ∙ take_min n (drop offset file)
    ∙ ap (λ (k : ℕ). take k (drop offset file)) (sym (number_there file offset)))

-- where no name needs it, or there is none
pub not_needed : (file : List ℕ) → has_long_names (walk file) ≡ false → needed_strings file ≡ []
unfolding needed_strings
not_needed file is = rw is refl

pub none_at : (file : List ℕ) → strings_at (length file) (places_of file) ≡ None → strings_of file ≡ []
unfolding strings_of string_table
none_at file is =
    let offset = strings_offset file in
    elim (cases_eq offset 0) [
      | inl zero ↦ rw (eq-eqb offset 0 zero) refl
      | inr some ↦ elim (cases_lt (length file) (offset + 4)) [
        | inl past ↦ rw (ne_eqb offset 0 some, lt-ltb (length (drop offset file)) 4 (omega (arith, past, length-drop offset file))) refl
        | inr room ↦ let never : Some offset ≡ None = rw (ne_eqb offset 0 some, le-leb (offset + 4) (length file) room) at is in absurd cc
      ]
    ]

pub some_at : (file : List ℕ) (start : ℕ) → strings_at (length file) (places_of file) ≡ Some start → (strings_of file ≡ string_table (drop start file)) × (start + 4 ≤ length file)
unfolding strings_of
some_at file start is =
    let offset = strings_offset file in
    elim (cases_eq offset 0) [
      | inl zero ↦ let never : None ≡ Some start = rw (eq-eqb offset 0 zero) at is in absurd cc
      | inr some ↦ elim (cases_lt (length file) (offset + 4)) [
        | inl past ↦ let never : None ≡ Some start = rw (ne_eqb offset 0 some, lt-leb (offset + 4) (length file) past) at is in absurd cc
        | inr room ↦
            let found : Some offset ≡ Some start = rw (ne_eqb offset 0 some, le-leb (offset + 4) (length file) room) at is in
            let same : offset ≡ start = cc in
            (rw (ne_eqb offset 0 some) (ap (λ (n : ℕ). string_table (drop n file)) same), omega (arith, room, same))
      ]
    ]

-- the table of a file of which a name is in it
pub is_needed : (file : List ℕ) → has_long_names (walk file) ≡ true → needed_strings file ≡ strings_of file
unfolding needed_strings
is_needed file is = rw is refl
