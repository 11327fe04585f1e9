-- The rows that end sizes in each selected section, as one loop goes over all rows.
use Rattle.std.specs.Borrow.{Bor}
use Rattle.std.proofs.Common.{true, is_some, ◌≡◌, ◌≢◌, ◌⊎◌, ℕ, suc, ◌+◌, ◌<◌, ◌≤◌, List, [], ◌∷◌, ◌++◌, length, get_or, set, map, All, Option, Some, None, inl, inr, refl, sym, ap, subst, ◌∙◌, arith, nat_eq, length-set, get_or-set_other}
use Rattle.std.specs.Prelude.{if◌then◌else◌}
use Rattle.std.specs.Option.{option_map}
use Rattle.std.specs.List.{range_with_len, flat_map}
use Rattle.std.proofs.lemmas.Bool.{cases_eq, cases_lt, ne_eqb, eq-eqb}
use Rattle.std.proofs.lemmas.Grind.{get_or-set_at, flat_map-append}
use Rattle.std.proofs.lemmas.List.{append-nil, length-map, get_or-map, get_or_past, map-append}
use Rattle.std.proofs.lemmas.List.Elements.{All-nil, All-cons, All-append}
use Rattle.std.proofs.lemmas.Slice.Zip.{AllZip-long}
use Rattle.binfarce_bytes.specs.declared.sizes.RowAddress as code
use Rattle.binfarce_bytes.specs.Entries.{Entry}
use Rattle.binfarce_bytes.specs.SectionEntries.{in_section}
use Rattle.binfarce_bytes.specs.Sizes.{RowAddress, addresses_of}
use Rattle.binfarce_bytes.specs.RowViews.{row_view, rows_view}
use Rattle.binfarce_bytes.proofs.Rows.{range_more}
use Rattle.binfarce_bytes.proofs.SomeListed.{none_listed, some_listed}
use Rattle.binfarce_pe.specs.declared.functions.Held.{Held}
use Rattle.binfarce_pe.specs.PeSelection.{Rules, moved, section_entries, entries_by}
use Rattle.binfarce_pe.specs.PeSymbols.{CoffTable, record_count, symbol_of, row_numbers}
use Rattle.binfarce_pe.specs.PeRules.{SectionRules, accepted_name, ending_rows, entries_under}
use Rattle.binfarce_pe.specs.machine.RawPe.{numbered, names_view, rows_at, names_at, IsNameOf, HoldsThese, HoldsRows, HoldsSections, ending_name}
use Rattle.binfarce_pe.proofs.Rows.{AreBefore, HoldsOf, IsLeftOut, holds_none, goes_on, one_more_held, holds_all, no_entries, some_entry}

numbered_below : (n : ℕ) (addresses : List ℕ) (m : ℕ) → n + length addresses ≤ m → All (λ r. r.row < m) (numbered n addresses)
numbered_below n [] m le = All-nil (λ r. r.row < m)
numbered_below n (a ∷ addresses) m le = All-cons (λ r. r.row < m) (record { address = a; row = n }) (numbered (n + 1) addresses) (omega arith) (numbered_below (n + 1) addresses m (omega arith))

seen_below : (rows : List code.RowAddress) (m : ℕ) → All (λ r. r.row < m) (rows_view rows) → All (λ r. r.index < m) rows
seen_below [] m all = All-nil (λ r. r.index < m)
seen_below (r ∷ rows) m all = All-cons (λ r. r.index < m) r rows (all 0 (row_view r) (omega arith)) (seen_below rows m (λ k d lt. all (suc k) d (omega arith)))

-- each row that is held has the number of a name
pub held_named : (table : CoffTable) (rules : SectionRules) (h : Held) → HoldsRows table rules h → All (λ r. r.index < length h.names.items) h.rows.items
held_named table rules h is =
    let these = ending_rows table rules in
    let names = names_view h.names.items in
    let long : 0 + length (addresses_of these) ≤ length h.names.items = omega (arith, AllZip-long (IsNameOf table rules.accepts) these names is.names_are, length-map these (λ r. r.address), length-map h.names.items (option_map (λ t. t.now))) in
    seen_below h.rows.items (length h.names.items)
    (subst (λ (rs : List RowAddress). All (λ r. r.row < length h.names.items) rs) (sym is.rows_are) (numbered_below 0 (addresses_of these) (length h.names.items) long))

-- what is held at a position is what its place holds
pub rows_are : (held : List Held) (i : ℕ) (d : Held) → i < length held → rows_at held i ≡ rows_view (get_or held i d).rows.items
rows_are held i d lt = get_or-map (λ h. rows_view h.rows.items) held i d [] lt

pub names_are : (held : List Held) (i : ℕ) (d : Held) → i < length held → names_at held i ≡ names_view (get_or held i d).names.items
names_are held i d lt = get_or-map (λ h. names_view h.names.items) held i d [] lt

-- of each selected section those of these rows that end sizes are held
pub record HoldsEach (table : CoffTable) (rules : Rules) (before : List ℕ) (held : List Held) : Type 0 where
  pub long : length held ≡ rules.count
  pub each : (i : ℕ) → i < rules.count → HoldsOf table (rules.section (rules.first + i)) before (rows_at held i) (names_at held i)

pub each_holds_none : (table : CoffTable) (rules : Rules) (held : List Held) (count : ℕ) → count ≡ rules.count → length held ≡ count → All (λ h. (h.rows.items ≡ []) × (h.names.items ≡ [])) held → HoldsEach table rules [] held
each_holds_none table rules [] count is long all = record { long = long ∙ is; each = λ i lt. absurd (omega (arith, is, long)) }
each_holds_none table rules (h ∷ others) count is long all = record {
  long = long ∙ is;
  each = λ i lt.
      let below : i < length (h ∷ others) = omega (arith, is, long) in
      let empty = all i h below in
      let rows : rows_at (h ∷ others) i ≡ [] = rows_are (h ∷ others) i h below ∙ ap rows_view empty.0 in
      let names : names_at (h ∷ others) i ≡ [] = names_are (h ∷ others) i h below ∙ ap names_view empty.1 in
      rw (rows, names) (holds_none table (rules.section (rules.first + i)));
}

-- a row that ends no size in these sections adds nothing
pub each_goes_on : (table : CoffTable) (rules : Rules) (before : List ℕ) (k : ℕ) (held : List Held) → ((i : ℕ) → i < rules.count → ending_name table (rules.section (rules.first + i)) k (symbol_of table k) ≡ None) → HoldsEach table rules before held → HoldsEach table rules (before ++ k ∷ []) held
each_goes_on table rules before k held none h = record {
  long = h.long;
  each = λ i lt. goes_on table (rules.section (rules.first + i)) before k (rows_at held i) (names_at held i) (none i lt) (h.each i lt);
}

-- one that ends sizes in the section at this position is held there, with its name where it is kept
module _ (table : CoffTable) (rules : Rules) (before : List ℕ) (k at : ℕ) (held : List Held) (old new : Held) (address : ℕ) (name : Option (Bor (List ℕ))) (lt : at < rules.count) (is : old ≡ get_or held at old) (value : address ≡ (symbol_of table k).value)
    (added : new.rows.items ≡ old.rows.items ++ record { address = address; index = length old.names.items } ∷ []) (named : new.names.items ≡ old.names.items ++ name ∷ []) where
  row_here : rows_view old.rows.items ≡ rows_at held at → length old.names.items ≡ length (names_at held at) → rows_view new.rows.items ≡ rows_at held at ++ record { address = (symbol_of table k).value; row = length (names_at held at) } ∷ []
  row_here rows count =
      ap rows_view added ∙ map-append row_view old.rows.items (record { address = address; index = length old.names.items } ∷ [])
      ∙ rw (rows, count, value) refl

  name_here : names_view old.names.items ≡ names_at held at → names_view new.names.items ≡ names_at held at ++ option_map (λ t. t.now) name ∷ []
  name_here names =
      ap names_view named ∙ map-append (option_map (λ t. t.now)) old.names.items (name ∷ []) ∙ rw names refl

  pub each_adds : ((i : ℕ) → ending_name table (rules.section (rules.first + i)) k (symbol_of table k) ≡ (if nat_eq i at then Some (option_map (λ t. t.now) name) else None)) → HoldsEach table rules before held → HoldsEach table rules (before ++ k ∷ []) (set held at new)
  each_adds here h =
      let below : at < length held = omega (arith, lt, h.long) in
      let rows : rows_view old.rows.items ≡ rows_at held at = ap (λ (h : Held). rows_view h.rows.items) is ∙ sym (rows_are held at old below) in
      let names : names_view old.names.items ≡ names_at held at = ap (λ (h : Held). names_view h.names.items) is ∙ sym (names_are held at old below) in
      let count : length old.names.items ≡ length (names_at held at) = sym (length-map old.names.items (option_map (λ t. t.now))) ∙ ap length names in
      record {
        long = length-set held at new ∙ h.long;
        each = λ i less. by_place i less (cases_eq i at) (h.each i less) (omega (arith, less, h.long, length-set held at new)) (row_here rows count) (name_here names);
      }
    where
      Holds : ℕ → List RowAddress → List (Option (List ℕ)) → Type 0
      Holds i rows names = HoldsOf table (rules.section (rules.first + i)) (before ++ k ∷ []) rows names

      by_place : (i : ℕ) → i < rules.count → (i ≡ at) ⊎ (i ≢ at) → HoldsOf table (rules.section (rules.first + i)) before (rows_at held i) (names_at held i) → i < length (set held at new)
          → rows_view new.rows.items ≡ rows_at held at ++ record { address = (symbol_of table k).value; row = length (names_at held at) } ∷ [] → names_view new.names.items ≡ names_at held at ++ option_map (λ t. t.now) name ∷ []
          → Holds i (rows_at (set held at new) i) (names_at (set held at new) i)
      by_place i less (inl same) before_is inside rows names =
          let placed : get_or (set held at new) i new ≡ new = get_or-set_at held at i new new same (omega (arith, lt, h.long)) in
          let rows_now : rows_at (set held at new) i ≡ rows_at held i ++ record { address = (symbol_of table k).value; row = length (names_at held i) } ∷ [] =
          rows_are (set held at new) i new inside ∙ ap (λ (h : Held). rows_view h.rows.items) placed ∙ rows ∙ ap (λ (j : ℕ). rows_at held j ++ record { address = (symbol_of table k).value; row = length (names_at held j) } ∷ []) (sym same) in
          let names_now : names_at (set held at new) i ≡ names_at held i ++ option_map (λ t. t.now) name ∷ [] =
          names_are (set held at new) i new inside ∙ ap (λ (h : Held). names_view h.names.items) placed ∙ names ∙ ap (λ (j : ℕ). names_at held j ++ option_map (λ t. t.now) name ∷ []) (sym same) in
          rw (rows_now, names_now)
          (one_more_held table (rules.section (rules.first + i)) before k (option_map (λ t. t.now) name) (rows_at held i) (names_at held i) (length (names_at held i)) (here i ∙ rw (eq-eqb i at same) refl) refl before_is)
      by_place i less (inr other) before_is inside rows names =
          let kept : get_or (set held at new) i new ≡ get_or held i new = get_or-set_other held at i new new other in
          let rows_now : rows_at (set held at new) i ≡ rows_at held i = rows_are (set held at new) i new inside ∙ ap (λ (h : Held). rows_view h.rows.items) kept ∙ sym (rows_are held i new (omega (arith, less, h.long))) in
          let names_now : names_at (set held at new) i ≡ names_at held i = names_are (set held at new) i new inside ∙ ap (λ (h : Held). names_view h.names.items) kept ∙ sym (names_are held i new (omega (arith, less, h.long))) in
          rw (rows_now, names_now)
          (goes_on table (rules.section (rules.first + i)) before k (rows_at held i) (names_at held i) (here i ∙ rw (ne_eqb i at other) refl) before_is)

-- where these are all rows, all that end sizes are held
pub each_holds_all : (table : CoffTable) (rules : Rules) (before : List ℕ) (held : List Held) → row_numbers table ≡ before → HoldsEach table rules before held → HoldsSections table rules 0 held
each_holds_all table rules before held all h i low lt = holds_all table (rules.section (rules.first + i)) before (rows_at held i) (names_at held i) all (h.each i lt)

-- the rows of a place
pub held_at : (table : CoffTable) (rules : Rules) (held : List Held) (at : ℕ) (d : Held) → at < length held → length held ≡ rules.count → HoldsSections table rules at held → HoldsRows table (rules.section (rules.first + at)) (get_or held at d)
held_at table rules held at d lt long h = rw (rows_are held at d lt, names_are held at d lt) at (h at (omega arith) (omega arith))

-- those that were taken aren't held any more
pub others_held : (table : CoffTable) (rules : Rules) (held : List Held) (at : ℕ) (nothing : Held) → HoldsSections table rules at held → HoldsSections table rules (at + 1) (set held at nothing)
others_held table rules held at nothing h i low lt =
    let section = rules.section (rules.first + i) in
    subst (λ (rows : List RowAddress). HoldsThese table section.accepts (ending_rows table section) rows (names_at (set held at nothing) i)) (same (λ h. rows_view h.rows.items) i (omega arith))
    (subst (λ (names : List (Option (List ℕ))). HoldsThese table section.accepts (ending_rows table section) (rows_at held i) names) (same (λ h. names_view h.names.items) i (omega arith)) (h i (omega arith) lt))
  where
    same : {X : Type 0} (f : Held → List X) (i : ℕ) → at < i → get_or (map f held) i [] ≡ get_or (map f (set held at nothing)) i []
    same f i lt = elim (cases_lt i (length held)) [
      | inl below ↦ get_or-map f held i nothing [] below ∙ ap f (sym (get_or-set_other held at i nothing nothing (λ e. absurd (omega arith)))) ∙ sym (get_or-map f (set held at nothing) i nothing [] (omega (arith, length-set held at nothing)))
      | inr past ↦ get_or_past (map f held) i [] (omega (arith, length-map held f)) ∙ sym (get_or_past (map f (set held at nothing)) i [] (omega (arith, length-map (set held at nothing) f, length-set held at nothing)))
    ]

-- one section more is listed
pub one_section_more : {A : Type 0} (f : ℕ → List A) (a n : ℕ) → flat_map f (range_with_len a (n + 1)) ≡ flat_map f (range_with_len a n) ++ f (a + n)
one_section_more f a n = ap (flat_map f) (range_more a n) ∙ flat_map-append f (range_with_len a n) ((a + n) ∷ []) ∙ ap (λ (xs : List _). flat_map f (range_with_len a n) ++ xs) (append-nil (f (a + n)))

pub mapped_some : {A B : Type 0} (g : A → B) (xs : List A) → xs ≢ [] → map g xs ≢ []
mapped_some g [] some none = some refl
mapped_some g (x ∷ xs) some none = cc

-- none of these rows is kept of a selected section
abbrev pub NoneKept : CoffTable → Rules → List ℕ → Type 0
NoneKept table rules before = (i : ℕ) → i < rules.count → All (IsLeftOut table (rules.section (rules.first + i))) before

pub none_more : (table : CoffTable) (rules : Rules) (before : List ℕ) (k : ℕ) → ((i : ℕ) → i < rules.count → IsLeftOut table (rules.section (rules.first + i)) k) → NoneKept table rules before → NoneKept table rules (before ++ k ∷ [])
none_more table rules before k out none i lt =
    let P = IsLeftOut table (rules.section (rules.first + i)) in
    All-append P before (k ∷ []) (none i lt) (All-cons P k [] (out i lt) (All-nil P))

-- where none of all rows is kept there is no entry
pub none_selected : (table : CoffTable) (rules : Rules) (before : List ℕ) → row_numbers table ≡ before → NoneKept table rules before → entries_by rules table ≡ []
none_selected table rules before all none =
    none_listed (section_entries rules table) rules.first rules.count
    (λ i lt. ap (λ (es : List Entry). in_section (rules.first + i + 1) (map (moved (rules.address (rules.first + i))) es))
    (no_entries table (rules.section (rules.first + i)) (subst (λ (ks : List ℕ). All (IsLeftOut table (rules.section (rules.first + i))) ks) (sym all) (none i lt))))

-- where one is kept there is an entry
pub some_selected : (table : CoffTable) (rules : Rules) (before : List ℕ) (k at : ℕ) → k < record_count table → AreBefore table k before → at < rules.count → is_some (accepted_name table (rules.section (rules.first + at)).accepts k (symbol_of table k)) ≡ true → entries_by rules table ≢ []
some_selected table rules before k at within are lt kept = by_name (accepted_name table section.accepts k (symbol_of table k)) refl kept
  where
    section : SectionRules
    section = rules.section (rules.first + at)

    by_name : (o : Option (List ℕ)) → accepted_name table section.accepts k (symbol_of table k) ≡ o → is_some o ≡ true → entries_by rules table ≢ []
    by_name None is kept = absurd cc
    by_name (Some name) is kept =
        some_listed (section_entries rules table) rules.first rules.count at lt
        (mapped_some (λ (e : Entry). record { section = rules.first + at + 1; info = 0; version = 0; entry = e }) (map (moved (rules.address (rules.first + at))) (entries_under table section))
        (mapped_some (moved (rules.address (rules.first + at))) (entries_under table section) (some_entry table section before k name within are is)))
