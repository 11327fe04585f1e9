-- The answer of a PE file by the steps of a reading.
use Rattle.std.proofs.Common.{◌≡◌, ℕ, ◌+◌, ◌-◌, ◌<◌, ◌≤◌, Bool, cond, ltb, List, length, drop, Option, Some, None, Result, Ok, Err, refl, sym, ap, ap₂, ◌∙◌, arith, inl, inr, length-drop}
use Rattle.std.proofs.lemmas.Bool.{cases_lt, lt-ltb, le-ltb, lt-leb}
use Rattle.std.proofs.lemmas.List.{take_all}
use Rattle.binfarce_bytes.specs.Number.{bytes_at}
use Rattle.binfarce_bytes.specs.Refusal.{◌>>=◌, Refusal, unexpected_eof}
use Rattle.binfarce_bytes.specs.SectionEntries.{SelectedSymbols, unless}
use Rattle.binfarce_pe.specs.Pe.{least_length, signature_offset, header_after, header_of}
use Rattle.binfarce_pe.specs.PeParts.{TablePlaces, TextPlace, places_after, places_of, table_walk, whole_in}
use Rattle.binfarce_pe.specs.PeSelection.{SelectedSections, in_memory, base_at, code_of, sections_in, symbols_of, selected_answer, selected_file_answer, load_address_at, file_load_address}
use Rattle.binfarce_pe.specs.PeSymbols.{CoffTable, symbol_table}
use Rattle.binfarce_tables.specs.declared.error.ReadError.{ReadError}
use Rattle.binfarce_tables.specs.Reading.{Reads}
use Rattle.binfarce_tables.specs.machine.PePlaces.{signature_step, places_step, headers_at, alone_at, chosen_at, table_at}
use Rattle.binfarce_tables.proofs.PeAlone.{header_alone}
use Rattle.binfarce_pe.proofs.Selected.{code_within}
use Rattle.binfarce_tables.proofs.PeWhole.{held, code_same, view_same}
use Rattle.binfarce_tables.proofs.Readings.{instead, after_test}

-- what follows the selected sections, and the places
abbrev pub symbols_at : List ℕ → TablePlaces → SelectedSections → Result SelectedSymbols Refusal
symbols_at file places chosen = table_at file places >>= λ symbols. Ok (symbols_of chosen symbols)

abbrev pub after_places : Option (List ℕ) → List ℕ → TablePlaces → Result SelectedSymbols Refusal
after_places section file places = chosen_at section file places >>= symbols_at file places

by_steps : Result SelectedSections Refusal → Result CoffTable Refusal → Result SelectedSymbols Refusal
by_steps chosen symbols = chosen >>= λ chosen. symbols >>= λ symbols. Ok (symbols_of chosen symbols)

-- the sections that are chosen say the same by their headers alone
by_refusal : (section : Option (List ℕ)) (file : List ℕ) (places : TablePlaces) (why : Option Refusal) (symbols : Result CoffTable Refusal) → (table_walk (headers_at file places)).refusal ≡ why
    → by_steps (unless why (headers_at file places) >>= λ sections. code_of section sections >>= λ code. Ok (in_memory (base_at file places) sections code)) symbols
    ≡ by_steps (unless why (alone_at file places) >>= λ sections. code_of section sections >>= λ code. Ok (in_memory (base_at file places) sections code)) symbols
unfolding by_steps
by_refusal section file places (Some why) symbols is = refl
by_refusal section file places None symbols is =
    by_code (code_of section (headers_at file places)) refl symbols
    ∙ ap (λ (r : Result (Option TextPlace) Refusal). by_steps (r >>= λ code. Ok (in_memory (base_at file places) (alone_at file places) code)) symbols) (sym (code_same file places whole.0 whole.1 section))
  where
    whole : (places.sections < length file) × (places.section_count ≤ whole_in (headers_at file places))
    whole = held file places is

    by_code : (r : Result (Option TextPlace) Refusal) → code_of section (headers_at file places) ≡ r → (symbols : Result CoffTable Refusal)
        → by_steps (r >>= λ code. Ok (in_memory (base_at file places) (headers_at file places) code)) symbols ≡ by_steps (r >>= λ code. Ok (in_memory (base_at file places) (alone_at file places) code)) symbols
    by_code (Err why) at symbols = refl
    by_code (Ok code) at (Err why) = refl
    by_code (Ok code) at (Ok symbols) = ap Ok (sym (view_same file places whole.0 whole.1 (base_at file places) code symbols (code_within section (headers_at file places) code at)))

answer_is : (section : Option (List ℕ)) (file : List ℕ) → selected_answer section file ≡ by_steps (sections_in section file) (table_at file (places_of file))
unfolding selected_answer symbol_table by_steps
answer_is section file = refl

chosen_is : (section : Option (List ℕ)) (file : List ℕ) → by_steps (sections_in section file) (table_at file (places_of file)) ≡ by_steps (chosen_at section file (places_of file)) (table_at file (places_of file))
chosen_is section file = by_refusal section file (places_of file) (table_walk (headers_at file (places_of file))).refusal (table_at file (places_of file)) refl

after_is : (section : Option (List ℕ)) (file : List ℕ) → by_steps (chosen_at section file (places_of file)) (table_at file (places_of file)) ≡ after_places section file (places_of file)
unfolding by_steps
after_is section file = refl

pub steps_are : (section : Option (List ℕ)) (file : List ℕ) → selected_file_answer section file ≡ (places_step file >>= after_places section file)
steps_are section file =
    ap (λ (a : Result SelectedSymbols Refusal). cond (ltb (length file) (least_length file)) (Err unexpected_eof) a) (answer_is section file ∙ chosen_is section file ∙ after_is section file)
    ∙ after_test (ltb (length file) (least_length file)) unexpected_eof (places_of file) (after_places section file)

-- a reading from here on
module _ {X : Type 0} (fails : Bool) (view : X → SelectedSymbols) (section : Option (List ℕ)) (file : List ℕ) where
  pub from_places : (places : TablePlaces) (r : Result X ReadError) → places_step file ≡ Ok places → Reads fails view (after_places section file places) r → Reads fails view (selected_file_answer section file) r
  from_places places r step reads =
      instead fails view (selected_file_answer section file) (after_places section file places) r (steps_are section file ∙ ap (λ (s : Result TablePlaces Refusal). s >>= after_places section file) step) reads

  pub from_sections : (places : TablePlaces) (chosen : SelectedSections) (r : Result X ReadError) → places_step file ≡ Ok places → chosen_at section file places ≡ Ok chosen → Reads fails view (symbols_at file places chosen) r → Reads fails view (selected_file_answer section file) r
  from_sections places chosen r step found reads = from_places places r step (instead fails view (after_places section file places) (symbols_at file places chosen) r (ap (λ (t : Result SelectedSections Refusal). t >>= symbols_at file places) found) reads)

-- the symbol table, where it lies in the file
pub table_inside : (file : List ℕ) (places : TablePlaces) → places.symbols < length file → places.symbols + places.symbols_size ≤ length file
    → table_at file places ≡ Ok (record { rows = bytes_at file places.symbols places.symbols_size; strings = bytes_at file (places.symbols + places.symbols_size) (length file - (places.symbols + places.symbols_size)) })
table_inside file places begins ends =
    let end = places.symbols + places.symbols_size in
    let rest : bytes_at file end (length file - end) ≡ drop end file = take_all (length file - end) (drop end file) (omega (arith, length-drop end file)) in
    rw (lt-leb (length file) places.symbols begins, le-ltb (length file) end ends, rest) refl

-- the signature's offset that was read is the file's
pub signature_known : (file : List ℕ) (n : ℕ) → signature_step file ≡ Ok n → (64 ≤ length file) × (n ≡ signature_offset file)
signature_known file n step = elim (cases_lt (length file) 64) [
  | inl short ↦
      let none : signature_step file ≡ Err unexpected_eof = rw (lt-ltb (length file) 64 short) refl in
      let e : Path (Result ℕ Refusal) (Err unexpected_eof) (Ok n) = sym none ∙ step in
      absurd cc
  | inr room ↦
      let is : signature_step file ≡ Ok (signature_offset file) = rw (le-ltb (length file) 64 room) refl in
      let e : Path (Result ℕ Refusal) (Ok (signature_offset file)) (Ok n) = sym is ∙ step in
      (room, cc)
]

-- a file that has the stub is too short where the file header ends past it
pub header_past : (file : List ℕ) (n : ℕ) → signature_step file ≡ Ok n → ltb (length file) (least_length file) ≡ ltb (length file) (n + 24)
header_past file n step =
    let is = signature_known file n step in
    elim (cases_lt (length file) (n + 24)) [
      | inl short ↦ lt-ltb (length file) (least_length file) (omega (arith, is.0, is.1, short)) ∙ sym (lt-ltb (length file) (n + 24) short)
      | inr room ↦ le-ltb (length file) (least_length file) (omega (arith, is.0, is.1, room)) ∙ sym (le-ltb (length file) (n + 24) room)
    ]

-- the places that were read are the file's
pub places_are : (file headers : List ℕ) (signature : ℕ) (places : TablePlaces) → signature_step file ≡ Ok signature → signature + 24 ≤ length file
    → headers ≡ bytes_at file signature 24 → places ≡ places_after signature (header_after headers 0) → places_step file ≡ Ok places
places_are file headers signature places step inside is stated =
    let is_known = signature_known file signature step in
    let header : header_after headers 0 ≡ header_of file = ap (λ b. header_after b 0) is ∙ header_alone file signature ∙ ap (header_after file) is_known.1 in
    let same : places ≡ places_of file = stated ∙ ap₂ places_after is_known.1 header in
    rw (le-ltb (length file) (least_length file) (omega (arith, is_known.0, is_known.1, inside))) (ap Ok (sym same))

-- the load address, at the places that were read
pub load_steps : (file : List ℕ) (places : TablePlaces) → places_step file ≡ Ok places → file_load_address file ≡ load_address_at file places
load_steps file places step =
    after_test (ltb (length file) (least_length file)) unexpected_eof (places_of file) (load_address_at file)
    ∙ ap (λ (s : Result TablePlaces Refusal). s >>= load_address_at file) step
