-- What is true of each part of a PE file that is read, by the step that reads it.
use Rattle.std.proofs.Common.{◌≡◌, ℕ, ◌+◌, ◌-◌, ◌≤◌, Bool, true, false, cond, leb, List, [], ◌∷◌, ◌++◌, length, Ok, sym, subst}
use Rattle.std.proofs.lemmas.Bool.{le-leb}
use Rattle.std.proofs.lemmas.List.Elements.{All-head, All-tail, All-take}
use Rattle.std.specs.Prelude.{All}
use Rattle.binfarce_bytes.specs.Part.{Part, part, whole_part}
use Rattle.binfarce_pe.specs.PeParts.{TablePlaces, places_of}
use Rattle.binfarce_tables.specs.PeReads.{pointer_part, header_part, places_parts, optional_header_part, table_parts, beginning_part, strings_parts, pe_section_parts, selected_parts, pe_parts, pe_load_parts}
use Rattle.binfarce_tables.specs.machine.PePlaces.{signature_step, places_step}
use Rattle.binfarce_tables.proofs.PeBeginning.{places_read}
use Rattle.binfarce_tables.proofs.PeSteps.{signature_known}
use Rattle.binfarce_tables.proofs.Sure.{alone, front, back}

module _ (P : Part → Type 0) (file : List ℕ) where
  -- those of the symbols, at the places that were read
  module _ (are : All P (pe_parts file)) where
    abbrev rest : List Part
    rest = selected_parts file (places_of file) ++ table_parts file (places_of file)

    each : All P (pointer_part ∷ header_part file ∷ rest)
    unfolding pe_parts
    each = are

    rest_sure : All P rest
    rest_sure = All-tail P (header_part file) rest (All-tail P pointer_part (header_part file ∷ rest) each)

    pub pointer_sure : P pointer_part
    pointer_sure = All-head P pointer_part (header_part file ∷ rest) each

    pub places_sure : All P (places_parts file)
    places_sure = All-take P 2 (pointer_part ∷ header_part file ∷ rest) each

    module _ (places : TablePlaces) (step : places_step file ≡ Ok places) where
      same : places_of file ≡ places
      same = let is = places_read file places step in sym is.0

      pub selected_sure : All P (selected_parts file places)
      selected_sure = subst (λ (p : TablePlaces). All P (selected_parts file p)) same (front P (selected_parts file (places_of file)) (table_parts file (places_of file)) rest_sure)

      pub table_sure : All P (table_parts file places)
      table_sure = subst (λ (p : TablePlaces). All P (table_parts file p)) same (back P (selected_parts file (places_of file)) (table_parts file (places_of file)) rest_sure)

  -- those of the sections
  module _ (are : All P (pe_section_parts file)) where
    abbrev after : List Part
    after = beginning_part file (places_of file) ∷ strings_parts file (places_of file)

    section_each : All P (pointer_part ∷ header_part file ∷ after)
    unfolding pe_section_parts
    section_each = are

    after_sure : All P after
    after_sure = All-tail P (header_part file) after (All-tail P pointer_part (header_part file ∷ after) section_each)

    pub section_pointer_sure : P pointer_part
    section_pointer_sure = All-head P pointer_part (header_part file ∷ after) section_each

    pub section_places_sure : All P (places_parts file)
    section_places_sure = All-take P 2 (pointer_part ∷ header_part file ∷ after) section_each

    pub beginning_sure : (places : TablePlaces) → places_step file ≡ Ok places → All P (beginning_part file places ∷ [])
    beginning_sure places step =
        let is = places_read file places step in
        subst (λ (p : TablePlaces). All P (beginning_part file p ∷ [])) (sym is.0) (All-take P 1 after after_sure)

    pub strings_parts_sure : (places : TablePlaces) → places_step file ≡ Ok places → All P (strings_parts file places)
    strings_parts_sure places step =
        let is = places_read file places step in
        subst (λ (p : TablePlaces). All P (strings_parts file p)) (sym is.0) (All-tail P (beginning_part file (places_of file)) (strings_parts file (places_of file)) after_sure)

  -- the optional header's first bytes, at the place that was read
  pub base_sure : (places : TablePlaces) → places_step file ≡ Ok places → All P (pe_load_parts file) → All P (optional_header_part places ∷ [])
  base_sure places step are =
      let is = places_read file places step in
      subst (λ (p : TablePlaces). All P (optional_header_part p ∷ [])) (sym is.0)
      (All-tail P (header_part file) (optional_header_part (places_of file) ∷ []) (All-tail P pointer_part (header_part file ∷ optional_header_part (places_of file) ∷ []) are))

  -- the headers, at the offset that was read
  pub header_sure : (signature : ℕ) → signature_step file ≡ Ok signature → All P (places_parts file) → P (part signature 24)
  header_sure signature step are =
      let is = signature_known file signature step in
      subst (λ (n : ℕ). P (part n 24)) (sym is.1) (All-head P (header_part file) [] (All-tail P pointer_part (header_part file ∷ []) are))

  -- those of a symbol table that lies in the file
  module _ (places : TablePlaces) (are : All P (table_parts file places)) (inside : places.symbols + places.symbols_size ≤ length file) where
    abbrev end : ℕ
    end = places.symbols + places.symbols_size

    both : All P (part places.symbols places.symbols_size ∷ part end (length file - end) ∷ [])
    both = rw (le-leb end (length file) inside) at are

    pub strings_sure : (len : ℕ) → len ≡ length file → P (part end (len - end))
    strings_sure len is =
        subst (λ (n : ℕ). P (part end (n - end))) (sym is)
        (All-head P (part end (length file - end)) [] (All-tail P (part places.symbols places.symbols_size) (part end (length file - end) ∷ []) both))

-- the records, where they lie in the file
rows_if : (P : Part → Type 0) (fits : Bool) (rows strings : Part) → All P (cond fits (rows ∷ strings ∷ []) []) → All P (cond fits (rows ∷ []) [])
rows_if P true rows strings all = alone P rows (All-head P rows (strings ∷ []) all)
rows_if P false rows strings all = all

pub rows_where : (P : Part → Type 0) (file : List ℕ) (places : TablePlaces) → All P (table_parts file places) → All P (whole_part file places.symbols places.symbols_size)
rows_where P file places all =
    let end = places.symbols + places.symbols_size in
    rows_if P (leb end (length file)) (part places.symbols places.symbols_size) (part end (length file - end)) all
