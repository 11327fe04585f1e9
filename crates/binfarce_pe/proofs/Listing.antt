-- Rows numbered in the order in which they are held, once arranged: the entries that they give, and the sizes.
use Rattle.std.specs.Borrow.{Bor}
use Rattle.std.proofs.Common.{◌≡◌, ℕ, zero, suc, ◌+◌, ◌-◌, ◌<◌, Bool, true, false, cond, List, [], ◌∷◌, ◌++◌, length, get_or, take, map, Option, Some, None, inl, inr, refl, sym, ap, subst, ◌∙◌, append_assoc, arith, nat_lt}
use Rattle.std.specs.Prelude.{unwrap_or, if◌then◌else◌, filter, IfSome}
use Rattle.std.specs.Option.{option_map}
use Rattle.std.specs.List.{filter_map, cons_option, AllZip}
use Rattle.std.proofs.lemmas.Bool.{lt-ltb, le-ltb, cases_lt}
use Rattle.std.proofs.lemmas.List.{take_more, get_or-map, length-map, map-append, append-nil}
use Rattle.std.proofs.lemmas.List.Elements.{filter_map-append}
use Rattle.binfarce_bytes.specs.declared.sizes.RowAddress as code
use Rattle.binfarce_bytes.specs.Sizes.{RowAddress, comes_before, put_in, arranged, addresses_of, least, least_of, least_above}
use Rattle.binfarce_bytes.specs.Entries.{Entry}
use Rattle.binfarce_bytes.specs.SectionEntries.{SectionEntry, in_section}
use Rattle.binfarce_pe.specs.PeSelection.{SelectedSections, the_text, in_memory, Rules, rules_of, memory_size, moved, section_entries}
use Rattle.binfarce_bytes.specs.RowViews.{row_view, rows_view}
use Rattle.binfarce_pe.specs.PeSymbols.{CoffTable, SymbolRow, symbol_of, size_among}
use Rattle.binfarce_pe.specs.PeRules.{SectionRules, accepted_name, ending_rows, entry_under, entries_under}
use Rattle.binfarce_pe.specs.machine.RawPe.{numbered, names_view, IsNameOf, HoldsThese, function_in}
use Rattle.binfarce_bytes.proofs.Above.{LeastAbove, arranged_above, least_above_is}
use Rattle.binfarce_bytes.proofs.Arrangement.{Rising}
use Rattle.binfarce_pe.proofs.Strictly.{ending_rise}

-- the entry of a row whose name has its number, by the addresses that end sizes
abbrev function_at : (List ℕ → ℕ → ℕ) → List (Option (List ℕ)) → List ℕ → RowAddress → Option Entry
function_at size names addresses r = option_map (λ (name : List ℕ). record { name = name; address = r.address; size = size addresses r.address }) (get_or names r.row None)

-- what is read past the end
none : RowAddress
none = record { address = 0; row = 0 }

-- the row has its address, and its number among the others
abbrev IsNumbered : List RowAddress → RowAddress → RowAddress → Type 0
IsNumbered kept r q = (r.row < length kept) × (get_or kept r.row none ≡ q) × (r.address ≡ q.address)

numbered_from : (kept rest : List RowAddress) (n : ℕ) → n + length rest ≡ length kept → ((k : ℕ) → get_or kept (n + k) none ≡ get_or rest k none)
    → AllZip (IsNumbered kept) (numbered n (addresses_of rest)) rest
numbered_from kept [] n long here = tt
numbered_from kept (q ∷ rest) n long here = (
  (omega arith, ap (λ (i : ℕ). get_or kept i none) (omega arith) ∙ here 0, refl),
  numbered_from kept rest (n + 1) (omega arith) (λ k. ap (λ (i : ℕ). get_or kept i none) (omega arith) ∙ here (suc k)),
)

all_numbered : (kept : List RowAddress) → AllZip (IsNumbered kept) (numbered 0 (addresses_of kept)) kept
all_numbered kept = numbered_from kept kept 0 (omega arith) (λ k. ap (λ (i : ℕ). get_or kept i none) (omega arith))

rising_at : (xs : List RowAddress) → Rising xs → (i j : ℕ) (d : RowAddress) → i < j → j < length xs → (get_or xs i d).row < (get_or xs j d).row
rising_at [] up i j d lt within = absurd (omega arith)
rising_at (x ∷ xs) up i zero d lt within = absurd (omega arith)
rising_at (x ∷ xs) up zero (suc j) d lt within = up.0 j d (omega arith)
rising_at (x ∷ xs) up (suc i) (suc j) d lt within = rising_at xs up.1 i j d (omega arith) (omega arith)

-- numbers that rise together have the same order
same_test : (i j a b : ℕ) → (i < j → a < b) → (j < i → b < a) → (i ≡ j → a ≡ b) → nat_lt i j ≡ nat_lt a b
same_test i j a b up down same = elim (cases_lt i j) [
  | inl lt ↦ rw (lt-ltb i j lt, lt-ltb a b (up lt)) refl
  | inr le ↦ rw (
    le-ltb i j le,
    le-ltb a b (elim (cases_lt j i) [
      | inl gt ↦ let less : b < a = down gt in omega arith
      | inr ge ↦ let equal : a ≡ b = same (omega arith) in omega arith
    ]),
  ) refl
]

-- so rows compare by them as by the numbers in the table
agree : (kept : List RowAddress) → Rising kept → (x q y p : RowAddress) → IsNumbered kept x q → IsNumbered kept y p → comes_before x y ≡ comes_before q p
agree kept up x q y p is also =
    let test : nat_lt x.row y.row ≡ nat_lt q.row p.row =
    same_test x.row y.row q.row p.row
    (λ lt. rw (is.1, also.1) at (rising_at kept up x.row y.row none lt also.0))
    (λ lt. rw (is.1, also.1) at (rising_at kept up y.row x.row none lt is.0))
    (λ same. ap (λ (r : RowAddress). r.row) (sym is.1 ∙ ap (λ (i : ℕ). get_or kept i none) same ∙ also.1)) in
    rw (is.2, also.2, test) refl

module _ (R : RowAddress → RowAddress → Type 0) (same_order : (x q y p : RowAddress) → R x q → R y p → comes_before x y ≡ comes_before q p) where
  put_in_pairs : (x q : RowAddress) (xs ys : List RowAddress) → R x q → AllZip R xs ys → AllZip R (put_in x xs) (put_in q ys)
  put_in_pairs x q [] [] r all = (r, tt)
  put_in_pairs x q [] (p ∷ ys) r all = absurd all
  put_in_pairs x q (y ∷ xs) [] r all = absurd all
  put_in_pairs x q (y ∷ xs) (p ∷ ys) r all = by_test (comes_before y x) (comes_before p q) (same_order y p x q all.0 r) (put_in_pairs x q xs ys r all.1)
    where
      by_test : (a b : Bool) → a ≡ b → AllZip R (put_in x xs) (put_in q ys) → AllZip R (cond a (y ∷ put_in x xs) (x ∷ y ∷ xs)) (cond b (p ∷ put_in q ys) (q ∷ p ∷ ys))
      by_test true true e rest = (all.0, rest)
      by_test false false e rest = (r, all)
      by_test true false e rest = absurd cc
      by_test false true e rest = absurd cc

  arranged_pairs : (xs ys : List RowAddress) → AllZip R xs ys → AllZip R (arranged xs) (arranged ys)
  unfolding arranged
  arranged_pairs [] [] all = tt
  arranged_pairs [] (y ∷ ys) all = absurd all
  arranged_pairs (x ∷ xs) [] all = absurd all
  arranged_pairs (x ∷ xs) (y ∷ ys) all = put_in_pairs x y (arranged xs) (arranged ys) all.0 (arranged_pairs xs ys all.1)

-- rows arranged by their numbers among these have the same order as by their numbers in the table
abbrev pub arranged_numbers : List RowAddress → List RowAddress
arranged_numbers kept = arranged (numbered 0 (addresses_of kept))

arranged_rows_same : (table : CoffTable) (rules : SectionRules) → AllZip (IsNumbered (ending_rows table rules)) (arranged_numbers (ending_rows table rules)) (arranged (ending_rows table rules))
arranged_rows_same table rules =
    let these = ending_rows table rules in
    arranged_pairs (IsNumbered these) (agree these (ending_rise table rules)) (numbered 0 (addresses_of these)) these (all_numbered these)

name_at : (table : CoffTable) (accepts : SymbolRow ℕ → Bool) (these : List RowAddress) (names : List (Option (List ℕ))) (k : ℕ) → AllZip (IsNameOf table accepts) these names → k < length these → IsNameOf table accepts (get_or these k none) (get_or names k None)
name_at table accepts [] [] k all lt = absurd (omega arith)
name_at table accepts [] (n ∷ names) k all lt = absurd all
name_at table accepts (r ∷ these) [] k all lt = absurd all
name_at table accepts (r ∷ these) (n ∷ names) zero all lt = all.0
name_at table accepts (r ∷ these) (n ∷ names) (suc k) all lt = name_at table accepts these names k all.1 (omega arith)

one_entry : (table : CoffTable) (rules : SectionRules) (addresses : List ℕ) (names : List (Option (List ℕ))) (r q : RowAddress) → IsNameOf table rules.accepts q (get_or names r.row None) → r.address ≡ q.address
    → entry_under table rules addresses q ≡ function_at rules.size names addresses r
one_entry table rules addresses names r q is same =
    ap (option_map (λ (name : List ℕ). record { name = name; address = q.address; size = rules.size addresses q.address })) is
    ∙ ap (λ (a : ℕ). option_map (λ (name : List ℕ). record { name = name; address = a; size = rules.size addresses a }) (get_or names r.row None)) (sym same)

entries_listed : (table : CoffTable) (rules : SectionRules) (addresses : List ℕ) (these : List RowAddress) (names : List (Option (List ℕ))) → AllZip (IsNameOf table rules.accepts) these names
    → (xs ys : List RowAddress) → AllZip (IsNumbered these) xs ys → filter_map (function_at rules.size names addresses) xs ≡ filter_map (entry_under table rules addresses) ys
entries_listed table rules addresses these names named [] [] all = refl
entries_listed table rules addresses these names named [] (q ∷ ys) all = absurd all
entries_listed table rules addresses these names named (x ∷ xs) [] all = absurd all
entries_listed table rules addresses these names named (x ∷ xs) (q ∷ ys) all =
    let is : IsNameOf table rules.accepts q (get_or names x.row None) = subst (λ (r : RowAddress). IsNameOf table rules.accepts r (get_or names x.row None)) all.0.1 (name_at table rules.accepts these names x.row named all.0.0) in
    ap (cons_option (function_at rules.size names addresses x)) (entries_listed table rules addresses these names named xs ys all.1)
    ∙ ap (λ (o : Option Entry). cons_option o (filter_map (entry_under table rules addresses) ys)) (sym (one_entry table rules addresses names x q is all.0.2))

-- with the text's size among the members
with_text : (t a : ℕ) (xs : List ℕ) → least_above (t ∷ xs) a ≡ (if nat_lt a t then Some (least_of t (least_above xs a)) else least_above xs a)
unfolding least_above
with_text t a xs = by_test (nat_lt a t)
  where
    by_test : (b : Bool) → least (cond b (t ∷ filter (λ c. nat_lt a c) xs) (filter (λ c. nat_lt a c) xs)) ≡ cond b (Some (least_of t (least (filter (λ c. nat_lt a c) xs)))) (least (filter (λ c. nat_lt a c) xs))
    by_test true = refl
    by_test false = refl

-- the size that the least address above and the text's size give
pub size_is : (t a : ℕ) (addresses : List ℕ) (above : Option ℕ) → above ≡ least_above addresses a
    → unwrap_or (option_map (λ b. b - a) (if nat_lt a t then Some (least_of t above) else above)) 0 ≡ size_among (t ∷ addresses) a
size_is t a addresses above e =
    ap (λ (o : Option ℕ). unwrap_or (option_map (λ b. b - a) o) 0)
    (ap (λ (o : Option ℕ). if nat_lt a t then Some (least_of t o) else o) e ∙ sym (with_text t a addresses))

addresses_numbered : (n : ℕ) (addresses : List ℕ) → addresses_of (numbered n addresses) ≡ addresses
addresses_numbered n [] = refl
addresses_numbered n (a ∷ addresses) = ap (λ (bs : List ℕ). a ∷ bs) (addresses_numbered (n + 1) addresses)

above_same : (a : ℕ) (these : List RowAddress) → least_above (addresses_of (arranged_numbers these)) a ≡ least_above (addresses_of these) a
above_same a these =
    arranged_above (numbered 0 (addresses_of these)) a ∙ ap (λ (addresses : List ℕ). least_above addresses a) (addresses_numbered 0 (addresses_of these))

-- a size that goes by the least address above
abbrev GoesByAbove : (List ℕ → ℕ → ℕ) → Type 0
GoesByAbove size = (a : ℕ) (xs ys : List ℕ) → least_above xs a ≡ least_above ys a → size xs a ≡ size ys a

-- all sizes do
goes_by_above : (chosen : SelectedSections) (index : ℕ) → GoesByAbove ((rules_of chosen).section index).size
goes_by_above (the_text text) index a xs ys same =
    sym (size_is text.size a xs (least_above ys a) (sym same)) ∙ size_is text.size a ys (least_above ys a) refl
goes_by_above (in_memory base sections code) index a xs ys same = ap (λ (o : Option ℕ). least_of (memory_size sections index) o - a) same

entries_same : (table : CoffTable) (rules : SectionRules) (xs ys : List ℕ) → GoesByAbove rules.size → ((a : ℕ) → least_above xs a ≡ least_above ys a) → (rows : List RowAddress)
    → filter_map (entry_under table rules xs) rows ≡ filter_map (entry_under table rules ys) rows
entries_same table rules xs ys goes same [] = refl
entries_same table rules xs ys goes same (r ∷ rows) =
    let first : entry_under table rules xs r ≡ entry_under table rules ys r =
    ap (λ (n : ℕ). option_map (λ (name : List ℕ). record { name = name; address = r.address; size = n }) (accepted_name table rules.accepts r.row (symbol_of table r.row))) (goes r.address xs ys (same r.address)) in
    ap (λ (o : Option Entry). cons_option o (filter_map (entry_under table rules xs) rows)) first ∙ ap (cons_option (entry_under table rules ys r)) (entries_same table rules xs ys goes same rows)

-- what is listed of the arranged rows is the entries
entries_are : (table : CoffTable) (rules : SectionRules) (held in_order : List RowAddress) (names : List (Option (List ℕ))) → GoesByAbove rules.size → HoldsThese table rules.accepts (ending_rows table rules) held names → in_order ≡ arranged held
    → filter_map (function_at rules.size names (addresses_of in_order)) in_order ≡ entries_under table rules
unfolding entries_under
entries_are table rules held in_order names goes h are =
    let these = ending_rows table rules in
    ap (λ (rs : List RowAddress). filter_map (function_at rules.size names (addresses_of rs)) rs) (are ∙ ap arranged h.rows_are)
    ∙ entries_listed table rules (addresses_of (arranged_numbers these)) these names h.names_are (arranged_numbers these) (arranged these) (arranged_rows_same table rules)
    ∙ entries_same table rules (addresses_of (arranged_numbers these)) (addresses_of these) goes (λ a. above_same a these) (arranged these)

in_a_section : (rules : Rules) (index : ℕ) (names : List (Option (List ℕ))) (addresses : List ℕ) (rows : List RowAddress)
    → filter_map (function_in rules index names addresses) rows ≡ in_section (index + 1) (map (moved (rules.address index)) (filter_map (function_at (rules.section index).size names addresses) rows))
in_a_section rules index names addresses [] = refl
in_a_section rules index names addresses (r ∷ rows) = by_name (get_or names r.row None) (in_a_section rules index names addresses rows)
  where
    size : ℕ
    size = (rules.section index).size addresses r.address

    by_name : (o : Option (List ℕ)) → filter_map (function_in rules index names addresses) rows ≡ in_section (index + 1) (map (moved (rules.address index)) (filter_map (function_at (rules.section index).size names addresses) rows))
        → cons_option (option_map (λ (name : List ℕ). record { section = index + 1; info = 0; version = 0; entry = record { name = name; address = rules.address index r.address; size = size } }) o) (filter_map (function_in rules index names addresses) rows)
        ≡ in_section (index + 1) (map (moved (rules.address index)) (cons_option (option_map (λ (name : List ℕ). record { name = name; address = r.address; size = size }) o) (filter_map (function_at (rules.section index).size names addresses) rows)))
    by_name None rest = rest
    by_name (Some name) rest = ap (λ (es : List SectionEntry). record { section = index + 1; info = 0; version = 0; entry = record { name = name; address = rules.address index r.address; size = size } } ∷ es) rest

-- in a section, at its addresses
pub section_entries_are : (table : CoffTable) (chosen : SelectedSections) (index : ℕ) (held in_order : List RowAddress) (names : List (Option (List ℕ))) → let rules = rules_of chosen in
    HoldsThese table (rules.section index).accepts (ending_rows table (rules.section index)) held names → in_order ≡ arranged held
    → filter_map (function_in rules index names (addresses_of in_order)) in_order ≡ section_entries rules table index
section_entries_are table chosen index held in_order names h are =
    let rules = rules_of chosen in
    in_a_section rules index names (addresses_of in_order) in_order
    ∙ ap (λ (es : List Entry). in_section (index + 1) (map (moved (rules.address index)) es)) (entries_are table (rules.section index) held in_order names (goes_by_above chosen index) h are)

greater : (xs : List ℕ) (a : ℕ) (o : Option ℕ) → LeastAbove xs a o → IfSome o (λ b. a < b)
greater xs a None is = tt
greater xs a (Some b) is = is.above

-- a least member above is above
pub above_greater : (xs : List ℕ) (a : ℕ) (o : Option ℕ) → o ≡ least_above xs a → IfSome o (λ b. a < b)
above_greater xs a o e = greater xs a o (subst (LeastAbove xs a) (sym e) (least_above_is xs a))

-- what the walk found for the row at a position
pub above_at : (rows : List code.RowAddress) (members : List ℕ) (above : List (Option ℕ)) (i : ℕ) (d : code.RowAddress) → i < length rows → above ≡ map (λ r. least_above members r.address) rows
    → get_or above i None ≡ least_above members (get_or rows i d).address
above_at rows members above i d within is =
    ap (λ (xs : List (Option ℕ)). get_or xs i None) is ∙ get_or-map (λ (r : code.RowAddress). least_above members r.address) rows i d None within

-- one row more is seen, after others
one_more : {E : Type 0} (entry : RowAddress → Option E) (rows : List code.RowAddress) (i : ℕ) (d : code.RowAddress) → i < length rows
    → filter_map entry (take (i + 1) (rows_view rows)) ≡ filter_map entry (take i (rows_view rows)) ++ cons_option (entry (row_view (get_or rows i d))) []
one_more {E} entry rows i d within =
    let here : get_or (rows_view rows) i (row_view d) ≡ row_view (get_or rows i d) = get_or-map row_view rows i d (row_view d) within in
    ap (filter_map entry) (take_more (rows_view rows) i (row_view d) (omega (arith, length-map rows row_view)))
    ∙ filter_map-append entry (take i (rows_view rows)) (get_or (rows_view rows) i (row_view d) ∷ [])
    ∙ ap (λ (r : RowAddress). filter_map entry (take i (rows_view rows)) ++ cons_option (entry r) []) here

-- one that has no name adds nothing
pub nothing_listed : {F E : Type 0} (seen : F → E) (entry : RowAddress → Option E) (before : List E) (rows : List code.RowAddress) (i : ℕ) (d : code.RowAddress) (functions : List F) → i < length rows
    → map seen functions ≡ before ++ filter_map entry (take i (rows_view rows)) → entry (row_view (get_or rows i d)) ≡ None → map seen functions ≡ before ++ filter_map entry (take (i + 1) (rows_view rows))
nothing_listed {F} {E} seen entry before rows i d functions within so_far none =
    so_far ∙ ap (λ (es : List E). before ++ es)
    (sym (one_more entry rows i d within ∙ rw none (append-nil (filter_map entry (take i (rows_view rows))))))

-- and one that has is listed
pub one_more_listed : {F E : Type 0} (seen : F → E) (entry : RowAddress → Option E) (before : List E) (rows : List code.RowAddress) (i : ℕ) (d : code.RowAddress) (functions : List F) (f : F) → i < length rows
    → map seen functions ≡ before ++ filter_map entry (take i (rows_view rows)) → entry (row_view (get_or rows i d)) ≡ Some (seen f) → map seen (functions ++ f ∷ []) ≡ before ++ filter_map entry (take (i + 1) (rows_view rows))
one_more_listed {F} {E} seen entry before rows i d functions f within so_far is =
    map-append seen functions (f ∷ [])
    ∙ ap (λ (es : List E). es ++ seen f ∷ []) so_far
    ∙ append_assoc before (filter_map entry (take i (rows_view rows))) (seen f ∷ [])
    ∙ ap (λ (es : List E). before ++ es)
    (sym (one_more entry rows i d within ∙ ap (λ (o : Option E). filter_map entry (take i (rows_view rows)) ++ cons_option o []) is))

-- a row whose name isn't held has no entry
pub nameless : (rules : Rules) (index : ℕ) (names : List (Option (Bor (List ℕ)))) (addresses : List ℕ) (row : code.RowAddress) (d : Option (Bor (List ℕ))) → row.index < length names → get_or names row.index d ≡ None → function_in rules index (names_view names) addresses (row_view row) ≡ None
nameless rules index names addresses row d within none =
    let is : get_or (names_view names) row.index None ≡ None = get_or-map (option_map (λ t. t.now)) names row.index d None within ∙ ap (option_map (λ t. t.now)) none in
    rw is refl

-- one whose name is held has that entry
pub function_is : (rules : Rules) (index : ℕ) (names : List (Option (Bor (List ℕ)))) (addresses : List ℕ) (row : code.RowAddress) (d : Option (Bor (List ℕ))) (name : Bor (List ℕ)) (address size : ℕ) → row.index < length names → get_or names row.index d ≡ Some name
    → address ≡ rules.address index row.address → size ≡ (rules.section index).size addresses row.address
    → function_in rules index (names_view names) addresses (row_view row) ≡ Some (record { section = index + 1; info = 0; version = 0; entry = record { name = name.now; address = address; size = size } })
function_is rules index names addresses row d name address size within some moved sized =
    let is : get_or (names_view names) row.index None ≡ Some name.now = get_or-map (option_map (λ t. t.now)) names row.index d None within ∙ ap (option_map (λ t. t.now)) some in
    rw (is, moved, sized) refl
