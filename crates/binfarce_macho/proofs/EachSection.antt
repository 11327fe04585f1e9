-- The rows that are kept of each section, as one loop goes over all rows, and the entries that are made of them.
use Rattle.std.proofs.Common.{◌≡◌, ◌≢◌, ℕ, zero, suc, ◌+◌, ◌-◌, ◌/◌, ◌<◌, ◌≤◌, Bool, true, false, cond, not, ◌&&◌, nat_eq, nat_le, nat_lt, bit_and, List, [], ◌∷◌, ◌++◌, length, get_or, set, slice_get, map, unwrap_or, take, All, Bor, Option, None, Some, Vec, Global, inl, inr, refl, sym, ap, subst, ◌∙◌, arith, length-set, get_or-set_other, append_assoc}
use Rattle.std.specs.Option.{option_map}
use Rattle.std.specs.List.{range_with_len, filter_map, cons_option}
use Rattle.std.proofs.lemmas.Bool.{and_parts, leb-true, ltb-true, cases_eq, ne_eqb, false≢true}
use Rattle.std.proofs.lemmas.Grind.{get_or-set_at}
use Rattle.std.proofs.lemmas.List.{get_or-map, length-map, map-append, take_more}
use Rattle.std.proofs.lemmas.List.Elements.{All-nil, All-cons, All-head}
use Rattle.std.proofs.lemmas.Option.{slice_get-map}
use Rattle.std.proofs.lemmas.List.Sorted.{All-permutation}
use Rattle.binfarce_bytes.specs.declared.sizes.RowAddress as code
use Rattle.binfarce_bytes.specs.Entries.{Entry}
use Rattle.binfarce_bytes.specs.RowViews.{row_view, rows_view}
use Rattle.binfarce_bytes.specs.SectionEntries.{SectionEntry, in_section}
use Rattle.binfarce_bytes.specs.Sizes.{RowAddress, arranged, addresses_of, least_above}
use Rattle.binfarce_bytes.proofs.Above.{arranged_above}
use Rattle.binfarce_bytes.proofs.Arranging.{arranged_same}
use Rattle.binfarce_macho.specs.MachoSections.{NumberedSection, is_defined_in, lies_in, function_name, kept_row, kept_rows, section_entry, entries_of, size_in}
use Rattle.binfarce_macho.specs.MachoSelection.{numbered_view}
use Rattle.binfarce_macho.specs.declared.numbered.NumberedSection as code_numbered
use Rattle.binfarce_macho.specs.MachoSymbols.{Extent, Symbols, SymbolRow, symbol_of}
use Rattle.binfarce_macho.specs.machine.RawMacho.{named_in, name_in, row_in, rows_at, function_in, HoldsKept, IsInside}
use Rattle.binfarce_macho.proofs.Kept.{added_some, added_none}

module _ (strings : List ℕ) (section : Extent) (number : ℕ) (row : SymbolRow ℕ) where
  -- a row with a function's name lies in the section
  row_lies : (name : List ℕ) → function_name strings section number row ≡ Some name → (section.address ≤ row.value) × (row.value < section.address + section.size)
  unfolding function_name
  row_lies name is = by_test (is_defined_in number row && lies_in section row.value && not (nat_eq row.name 0)) refl _ is
    where
      by_test : (b : Bool) → (is_defined_in number row && lies_in section row.value && not (nat_eq row.name 0)) ≡ b → (o : Option (List ℕ)) → cond b o None ≡ Some name → (section.address ≤ row.value) × (row.value < section.address + section.size)
      by_test true e o is =
          let both = and_parts (is_defined_in number row && lies_in section row.value) (not (nat_eq row.name 0)) e in
          let lies = and_parts (is_defined_in number row) (lies_in section row.value) both.0 in
          let ends = and_parts (nat_le section.address row.value) (nat_lt row.value (section.address + section.size)) lies.1 in
          (leb-true section.address row.value ends.0, ltb-true row.value (section.address + section.size) ends.1)
      by_test false e o is = absurd cc

  -- and has its number
  no_function : row.section ≢ number → function_name strings section number row ≡ None
  unfolding function_name
  no_function other = by_test (is_defined_in number row && lies_in section row.value && not (nat_eq row.name 0)) refl _
    where
      by_test : (b : Bool) → (is_defined_in number row && lies_in section row.value && not (nat_eq row.name 0)) ≡ b → (o : Option (List ℕ)) → cond b o None ≡ None
      by_test false e o = refl
      by_test true e o =
          let both = and_parts (is_defined_in number row && lies_in section row.value) (not (nat_eq row.name 0)) e in
          let lies = and_parts (is_defined_in number row) (lies_in section row.value) both.0 in
          let is = and_parts (nat_eq (bit_and row.kind 0xEE) 0x0E) (nat_eq row.section number) lies.0 in
          absurd (false≢true (sym (ne_eqb row.section number other) ∙ is.1))

-- a row is kept of the section that it states alone
module _ (strings : List ℕ) (row : SymbolRow ℕ) (sections : List NumberedSection) where
  abbrev name : ℕ → Option (List ℕ)
  name i = named_in strings (i + 1) (slice_get sections i) row

  pub not_of : (i : ℕ) → row.section ≢ i + 1 → name i ≡ None
  not_of i other = by_section (slice_get sections i)
    where
      by_section : (o : Option NumberedSection) → named_in strings (i + 1) o row ≡ None
      by_section None = refl
      by_section (Some section) = by_test section.has_instructions
        where
          by_test : (b : Bool) → cond b (function_name strings section.extent (i + 1) row) None ≡ None
          by_test true = no_function strings section.extent (i + 1) row other
          by_test false = refl

  -- it is kept of none if not of that
  pub of_none : (index : ℕ) → row.section ≡ index + 1 → name index ≡ None → (i : ℕ) → name i ≡ None
  of_none index is none i = elim (cases_eq i index) [
    | inl same ↦ subst (λ (i : ℕ). name i ≡ None) (sym same) none
    | inr other ↦ not_of i (λ e. other (omega arith))
  ]

  pub no_section : (index : ℕ) → slice_get sections index ≡ None → name index ≡ None
  no_section index none = ap (λ (o : Option NumberedSection). named_in strings (index + 1) o row) none

  pub by_section : (index : ℕ) (section : NumberedSection) (b : Bool) → slice_get sections index ≡ Some section → section.has_instructions ≡ b
      → name index ≡ cond b (function_name strings section.extent (index + 1) row) None
  by_section index section b at holds =
      ap (λ (o : Option NumberedSection). named_in strings (index + 1) o row) at
      ∙ ap (λ (b : Bool). cond b (function_name strings section.extent (index + 1) row) None) holds

slice_get_at : {X : Type 0} (xs : List X) (k : ℕ) (d : X) → k < length xs → slice_get xs k ≡ Some (get_or xs k d)
slice_get_at [] k d lt = absurd (omega arith)
slice_get_at (x ∷ xs) zero d lt = refl
slice_get_at (x ∷ xs) (suc k) d lt = slice_get_at xs k d (omega arith)

pub section_here : (sections : List code_numbered.NumberedSection) (k : ℕ) (d : code_numbered.NumberedSection) → k < length sections → slice_get (map numbered_view sections) k ≡ Some (numbered_view (get_or sections k d))
section_here sections k d lt = slice_get-map numbered_view sections k ∙ ap (option_map numbered_view) (slice_get_at sections k d lt)

pub section_is : (sections : List code_numbered.NumberedSection) (k : ℕ) (section : code_numbered.NumberedSection) → k < length sections → section ≡ get_or sections k section → slice_get (map numbered_view sections) k ≡ Some (numbered_view section)
section_is sections k section lt is = section_here sections k section lt ∙ ap (λ (s : code_numbered.NumberedSection). Some (numbered_view s)) (sym is)

abbrev pub Held : Type 0
Held = List (Vec code.RowAddress Global)

-- what is held of a section is what its place holds
pub rows_are : (held : Held) (i : ℕ) (d : Vec code.RowAddress Global) → i < length held → rows_at held i ≡ rows_view (get_or held i d).items
rows_are held i d lt = get_or-map (λ v. rows_view v.items) held i d [] lt

module _ (sections : List NumberedSection) (table : Symbols) where
  pub holds_none : (held : Held) (names : List (Bor (List ℕ))) → length held ≡ length sections → All (λ v. v.items ≡ []) held → length names ≡ length table.rows / 16 → HoldsKept sections table 0 0 held names
  holds_none held names long none many = record {
    long = long;
    each = λ i low lt. empty held none i (omega arith);
    many = many;
    named = λ i k name lt e. absurd (omega arith);
  }
    where
      empty : (held : Held) → All (λ v. v.items ≡ []) held → (i : ℕ) → i < length held → rows_at held i ≡ []
      empty [] none i lt = absurd (omega arith)
      empty (v ∷ held) none i lt = rows_are (v ∷ held) i v lt ∙ ap rows_view (none i v lt)

  module _ (k : ℕ) (held : Held) (names : List (Bor (List ℕ))) (h : HoldsKept sections table k 0 held names) where
    no_row : (i : ℕ) → name_in sections table i k ≡ None → filter_map (row_in sections table i) (range_with_len 0 (k + 1)) ≡ filter_map (row_in sections table i) (range_with_len 0 k)
    no_row i none = added_none (row_in sections table i) k (ap (option_map (λ _. record { address = (symbol_of table.rows k).value; row = k })) none)

    -- row k is kept of no section
    pub passes_over : ((i : ℕ) → name_in sections table i k ≡ None) → HoldsKept sections table (k + 1) 0 held names
    passes_over none = record {
      long = h.long;
      each = λ i low lt. h.each i low lt ∙ sym (no_row i (none i));
      many = h.many;
      named = λ i j name lt e. elim (cases_eq j k) [
        | inl same ↦ absurd (not_both (name_in sections table i k) name (none i) (subst (λ (j : ℕ). name_in sections table i j ≡ Some name) same e))
        | inr other ↦ h.named i j name (omega arith) e
      ];
    }
      where
        not_both : (o : Option (List ℕ)) (name : List ℕ) → o ≡ None → o ≡ Some name → ⊥
        not_both o name none some = cc

    -- row k is kept of the section of this index alone
    pub keeps : (at address : ℕ) (name : Bor (List ℕ)) (place new : Vec code.RowAddress Global) → at < length sections → k < length table.rows / 16
        → name_in sections table at k ≡ Some name.now → ((i : ℕ) → i ≢ at → name_in sections table i k ≡ None) → address ≡ (symbol_of table.rows k).value
        → place ≡ get_or held at place → new.items ≡ place.items ++ record { address = address; index = k } ∷ []
        → HoldsKept sections table (k + 1) 0 (set held at new) (set names k name)
    keeps at address name place new lt within here elsewhere value place_is new_is = record {
      long = length-set held at new ∙ h.long;
      each = λ i low below. rows_are (set held at new) i new (omega (arith, length-set held at new, h.long)) ∙ elim (cases_eq i at) [
        | inl same ↦ subst (λ (i : ℕ). rows_view (get_or (set held at new) i new).items ≡ filter_map (row_in sections table i) (range_with_len 0 (k + 1))) (sym same) row_here
        | inr other ↦ ap (λ (v : Vec code.RowAddress Global). rows_view v.items) (get_or-set_other held at i new new other)
            ∙ sym (rows_are held i new (omega (arith, h.long))) ∙ h.each i low below ∙ sym (no_row i (elsewhere i other))
      ];
      many = length-set names k name ∙ h.many;
      named = λ i j n below e. get_or-map (λ t. t.now) (set names k name) j name [] (omega (arith, length-set names k name, h.many)) ∙ elim (cases_eq j k) [
        | inl same ↦ ap (λ (t : Bor (List ℕ)). t.now) (get_or-set_at names k j name name same (omega (arith, h.many)))
            ∙ name_here i n (subst (λ (j : ℕ). name_in sections table i j ≡ Some n) same e)
        | inr other ↦ ap (λ (t : Bor (List ℕ)). t.now) (get_or-set_other names k j name name other)
            ∙ sym (get_or-map (λ t. t.now) names j name [] (omega (arith, h.many))) ∙ h.named i j n (omega arith) e
      ];
    }
      where
        row : RowAddress
        row = record { address = (symbol_of table.rows k).value; row = k }

        added : row_in sections table at k ≡ Some row
        added = ap (option_map (λ _. row)) here

        row_here : rows_view (get_or (set held at new) at new).items ≡ filter_map (row_in sections table at) (range_with_len 0 (k + 1))
        row_here =
            ap (λ (v : Vec code.RowAddress Global). rows_view v.items) (get_or-set_at held at at new new refl (omega (arith, h.long)))
            ∙ ap rows_view new_is ∙ map-append row_view place.items (record { address = address; index = k } ∷ [])
            ∙ ap (λ (n : ℕ). rows_view place.items ++ record { address = n; row = k } ∷ []) value
            ∙ ap (λ (rows : List RowAddress). rows ++ row ∷ []) (ap (λ (v : Vec code.RowAddress Global). rows_view v.items) place_is ∙ sym (rows_are held at place (omega (arith, h.long))) ∙ h.each at (omega arith) lt)
            ∙ sym (added_some (row_in sections table at) k row added)

        same_name : (o : Option (List ℕ)) (n : List ℕ) → o ≡ Some name.now → o ≡ Some n → name.now ≡ n
        same_name o n one other = cc

        other_name : (o : Option (List ℕ)) (n : List ℕ) → o ≡ None → o ≡ Some n → name.now ≡ n
        other_name o n none some = absurd cc

        name_here : (i : ℕ) (n : List ℕ) → name_in sections table i k ≡ Some n → name.now ≡ n
        name_here i n e = elim (cases_eq i at) [
          | inl same ↦ same_name (name_in sections table at k) n here (subst (λ (i : ℕ). name_in sections table i k ≡ Some n) same e)
          | inr other ↦ other_name (name_in sections table i k) n (elsewhere i other) e
        ]

  module _ (n at : ℕ) (held : Held) (names : List (Bor (List ℕ))) (h : HoldsKept sections table n at held names) where
    -- the rows of a section were taken, and those of the sections after it are held
    pub others_held : (nothing : Vec code.RowAddress Global) → HoldsKept sections table n (at + 1) (set held at nothing) names
    others_held nothing = record {
      long = length-set held at nothing ∙ h.long;
      each = λ i low lt.
          rows_are (set held at nothing) i nothing (omega (arith, length-set held at nothing, h.long))
          ∙ ap (λ (v : Vec code.RowAddress Global). rows_view v.items) (get_or-set_other held at i nothing nothing (λ e. absurd (omega arith)))
          ∙ sym (rows_are held i nothing (omega (arith, h.long))) ∙ h.each i (omega arith) lt;
      many = h.many;
      named = h.named;
    }

    -- of fewer sections
    pub past_one : HoldsKept sections table n (at + 1) held names
    past_one = record { long = h.long; each = λ i low lt. h.each i (omega arith) lt; many = h.many; named = h.named }

    -- what is held of the next section
    pub held_here : (place d : Vec code.RowAddress Global) → at < length sections → place ≡ get_or held at d → rows_view place.items ≡ filter_map (row_in sections table at) (range_with_len 0 n)
    held_here place d lt is = ap (λ (v : Vec code.RowAddress Global). rows_view v.items) is ∙ sym (rows_are held at d (omega (arith, h.long))) ∙ h.each at (omega arith) lt

  module _ (i n : ℕ) where
    -- a row below n that is kept of a section
    abbrev IsKept : RowAddress → Type 0
    IsKept r = (r.row < n) × (r.address ≡ (symbol_of table.rows r.row).value) × ((name : List ℕ) × (name_in sections table i r.row ≡ Some name))

    one_kept : (k : ℕ) (r : RowAddress) → k < n → row_in sections table i k ≡ Some r → IsKept r
    one_kept k r lt e = by_name (name_in sections table i k) refl e
      where
        by_name : (o : Option (List ℕ)) → name_in sections table i k ≡ o → option_map (λ _. record { address = (symbol_of table.rows k).value; row = k }) o ≡ Some r → IsKept r
        by_name None is e = absurd cc
        by_name (Some name) is e =
            let same : record { address = (symbol_of table.rows k).value; row = k } ≡ r = cc in
            subst IsKept same (lt, refl, (name, is))

    all_kept : (a m : ℕ) → a + m ≤ n → All IsKept (filter_map (row_in sections table i) (range_with_len a m))
    all_kept a zero le = All-nil IsKept
    all_kept a (suc m) le = by_row (row_in sections table i a) refl (all_kept (a + 1) m (omega arith))
      where
        by_row : (o : Option RowAddress) → row_in sections table i a ≡ o → All IsKept (filter_map (row_in sections table i) (range_with_len (a + 1) m)) → All IsKept (cons_option o (filter_map (row_in sections table i) (range_with_len (a + 1) m)))
        by_row None is rest = rest
        by_row (Some r) is rest = All-cons IsKept r (filter_map (row_in sections table i) (range_with_len (a + 1) m)) (one_kept a r (omega arith) is) rest

    module _ (section : NumberedSection) (at : slice_get sections i ≡ Some section) where
      -- the name is a function's
      function : (k : ℕ) (name : List ℕ) → name_in sections table i k ≡ Some name → function_name table.strings section.extent (i + 1) (symbol_of table.rows k) ≡ Some name
      function k name e = by_test section.has_instructions (sym (ap (λ (o : Option NumberedSection). named_in table.strings (i + 1) o (symbol_of table.rows k)) at) ∙ e)
        where
          by_test : (b : Bool) → cond b (function_name table.strings section.extent (i + 1) (symbol_of table.rows k)) None ≡ Some name → function_name table.strings section.extent (i + 1) (symbol_of table.rows k) ≡ Some name
          by_test true e = e
          by_test false e = absurd cc

      -- kept rows lie in their section, and their numbers are below n
      pub all_inside : (rows : List code.RowAddress) (m : ℕ) → rows_view rows ≡ filter_map (row_in sections table i) (range_with_len 0 n) → n ≤ m → All (IsInside section.extent m) rows
      all_inside rows m are le = seen rows (subst (All IsKept) (sym are) (all_kept 0 n (omega arith)))
        where
          inside : (r : code.RowAddress) → IsKept (row_view r) → IsInside section.extent m r
          inside r kept =
              let lies = row_lies table.strings section.extent (i + 1) (symbol_of table.rows r.index) kept.2.0 (function r.index kept.2.0 kept.2.1) in
              (omega (arith, kept.0), omega (arith, kept.1, lies.0), omega (arith, kept.1, lies.1))

          seen : (rows : List code.RowAddress) → All IsKept (rows_view rows) → All (IsInside section.extent m) rows
          seen [] all = All-nil (IsInside section.extent m)
          seen (r ∷ rows) all = All-cons (IsInside section.extent m) r rows (inside r (all 0 (row_view r) (omega arith))) (seen rows (λ k d lt. all (suc k) d (omega arith)))

      rows_by : (b : Bool) → section.has_instructions ≡ b
          → filter_map (row_in sections table i) (range_with_len 0 n)
          ≡ filter_map (λ k. option_map (λ _. record { address = (symbol_of table.rows k).value; row = k }) (cond b (function_name table.strings section.extent (i + 1) (symbol_of table.rows k)) None)) (range_with_len 0 n)
      rows_by b holds =
          ap (λ (o : Option NumberedSection). filter_map (λ k. option_map (λ _. record { address = (symbol_of table.rows k).value; row = k }) (named_in table.strings (i + 1) o (symbol_of table.rows k))) (range_with_len 0 n)) at
          ∙ ap (λ (b : Bool). filter_map (λ k. option_map (λ _. record { address = (symbol_of table.rows k).value; row = k }) (cond b (function_name table.strings section.extent (i + 1) (symbol_of table.rows k)) None)) (range_with_len 0 n)) holds

-- no row gives none
none_of : (g : ℕ → RowAddress) (a n : ℕ) → filter_map (λ k. option_map (λ (_ : List ℕ). g k) None) (range_with_len a n) ≡ []
none_of g a zero = refl
none_of g a (suc n) = none_of g (a + 1) n

-- entries that are there are listed as they are
all_listed : (f : RowAddress → Option Entry) (number : ℕ) (g : RowAddress → Entry) (rows : List RowAddress) → All (λ r. f r ≡ Some (g r)) rows
    → map (λ r. let e : SectionEntry = record { section = number; info = 0; version = 0; entry = g r } in e) rows ≡ in_section number (filter_map f rows)
all_listed f number g [] all = refl
all_listed f number g (r ∷ rows) all =
    ap (λ (es : List SectionEntry). record { section = number; info = 0; version = 0; entry = g r } ∷ es) (all_listed f number g rows (λ k d lt. all (suc k) d (omega arith)))
    ∙ ap (λ (o : Option Entry). in_section number (cons_option o (filter_map f rows))) (sym (All-head (λ r. f r ≡ Some (g r)) r rows all))

-- without a row nothing is made
pub listed_none : (f : RowAddress → SectionEntry) (rows : List RowAddress) → rows ≡ [] → map f (arranged rows) ≡ []
unfolding arranged
listed_none f rows none = rw none refl

-- what is made of the rows that are held of a section are its entries
pub section_listed : (sections : List NumberedSection) (table : Symbols) (i : ℕ) (section : NumberedSection) (names : List (List ℕ)) (rows : List RowAddress) → slice_get sections i ≡ Some section
    → rows ≡ filter_map (row_in sections table i) (range_with_len 0 (length table.rows / 16))
    → ((k : ℕ) (name : List ℕ) → k < length table.rows / 16 → name_in sections table i k ≡ Some name → get_or names k [] ≡ name)
    → map (function_in section.extent (i + 1) names (arranged rows)) (arranged rows) ≡ in_section (i + 1) (entries_of table section (i + 1))
unfolding entries_of kept_row section_entry
section_listed sections table i section names rows at are named = by_test section.has_instructions refl
  where
    n : ℕ
    n = length table.rows / 16

    kept_are : section.has_instructions ≡ true → rows ≡ kept_rows table section.extent (i + 1)
    kept_are holds = are ∙ rows_by sections table i n section at true holds

    entry : RowAddress → Entry
    entry r = record { name = get_or names r.row []; address = r.address; size = size_in section.extent (addresses_of (arranged rows)) r.address }

    entry_is : section.has_instructions ≡ true → (r : RowAddress) → IsKept sections table i n r → section_entry table section.extent (i + 1) r ≡ Some (entry r)
    entry_is holds r kept =
        let is = function sections table i n section at r.row kept.2.0 kept.2.1 in
        ap (option_map (λ (name : List ℕ). record { name = name; address = r.address; size = size_in section.extent (addresses_of (kept_rows table section.extent (i + 1))) r.address })) is
        ∙ ap (λ (name : List ℕ). Some (record { name = name; address = r.address; size = size_in section.extent (addresses_of (kept_rows table section.extent (i + 1))) r.address })) (sym (named r.row kept.2.0 kept.0 kept.2.1))
        ∙ ap (λ (kept : List RowAddress). Some (record { name = get_or names r.row []; address = r.address; size = size_in section.extent (addresses_of kept) r.address })) (sym (kept_are holds))
        ∙ ap (λ (above : Option ℕ). Some (record { name = get_or names r.row []; address = r.address; size = unwrap_or above (section.extent.address + section.extent.size) - r.address })) (sym (arranged_above rows r.address))

    all_entries : section.has_instructions ≡ true → All (λ r. section_entry table section.extent (i + 1) r ≡ Some (entry r)) (arranged rows)
    all_entries holds =
        let all : All (IsKept sections table i n) (arranged rows) =
        All-permutation (IsKept sections table i n) rows (arranged rows) (arranged_same rows) (subst (All (IsKept sections table i n)) (sym are) (all_kept sections table i n 0 n (omega arith))) in
        λ k d lt. entry_is holds _ (all k d lt)

    by_test : (b : Bool) → section.has_instructions ≡ b → map (function_in section.extent (i + 1) names (arranged rows)) (arranged rows)
        ≡ in_section (i + 1) (cond b (filter_map (section_entry table section.extent (i + 1)) (arranged (kept_rows table section.extent (i + 1)))) [])
    by_test true holds =
        all_listed (section_entry table section.extent (i + 1)) (i + 1) entry (arranged rows) (all_entries holds)
        ∙ ap (λ (rows : List RowAddress). in_section (i + 1) (filter_map (section_entry table section.extent (i + 1)) (arranged rows))) (kept_are holds)
    by_test false none = listed_none (function_in section.extent (i + 1) names (arranged rows)) rows (are ∙ rows_by sections table i n section at false none ∙ none_of (λ k. record { address = (symbol_of table.rows k).value; row = k }) 0 n)

-- what the walk found for the row at a position
pub above_at : (rows : List code.RowAddress) (members : List ℕ) (above : List (Option ℕ)) (i : ℕ) (d : code.RowAddress) → i < length rows → above ≡ map (λ r. least_above members r.address) rows
    → get_or above i None ≡ least_above members (get_or rows i d).address
above_at rows members above i d within is =
    ap (λ (xs : List (Option ℕ)). get_or xs i None) is ∙ get_or-map (λ (r : code.RowAddress). least_above members r.address) rows i d None within

-- a function of this name and size is the row's
pub function_is : (section : Extent) (number : ℕ) (names : List (List ℕ)) (rows : List RowAddress) (row : code.RowAddress) (n size : ℕ) (name : List ℕ) → n ≡ number → name ≡ get_or names row.index []
    → (above : Option ℕ) → above ≡ least_above (addresses_of rows) row.address → size ≡ unwrap_or above (section.address + section.size) - row.address
    → record { section = n; info = 0; version = 0; entry = record { name = name; address = row.address; size = size } } ≡ function_in section number names rows (row_view row)
function_is section number names rows row n size name numbered named above above_is sized = rw (numbered, named, sized, above_is) refl

-- one more is listed, after others
pub one_more_listed : {F E : Type 0} (seen : F → E) (entry : RowAddress → E) (before : List E) (rows : List code.RowAddress) (i : ℕ) (d : code.RowAddress) (functions : List F) (f : F) → i < length rows
    → map seen functions ≡ before ++ map entry (take i (rows_view rows)) → seen f ≡ entry (row_view (get_or rows i d)) → map seen (functions ++ f ∷ []) ≡ before ++ map entry (take (i + 1) (rows_view rows))
one_more_listed {F} {E} seen entry before rows i d functions f within so_far is =
    let here : get_or (rows_view rows) i (row_view d) ≡ row_view (get_or rows i d) = get_or-map row_view rows i d (row_view d) within in
    map-append seen functions (f ∷ [])
    ∙ ap (λ (es : List E). es ++ seen f ∷ []) so_far
    ∙ append_assoc before (map entry (take i (rows_view rows))) (seen f ∷ [])
    ∙ ap (λ (es : List E). before ++ es)
    (ap (λ (e : E). map entry (take i (rows_view rows)) ++ e ∷ []) (is ∙ ap entry (sym here))
    ∙ sym (map-append entry (take i (rows_view rows)) (get_or (rows_view rows) i (row_view d) ∷ []))
    ∙ ap (map entry) (sym (take_more (rows_view rows) i (row_view d) (omega (arith, length-map rows row_view)))))
