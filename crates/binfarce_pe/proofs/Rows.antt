-- The rows of a PE file's symbol table, as a loop goes over them, and which of them end sizes.
use Rattle.std.proofs.Common.{◌≡◌, ◌≢◌, ℕ, zero, suc, ◌+◌, ◌-◌, ◌<◌, ◌≤◌, Bool, true, false, List, [], ◌∷◌, ◌++◌, length, All, Option, Some, None, refl, sym, ap, subst, ◌∙◌, append_assoc, arith, nat_lt}
use Rattle.std.specs.Prelude.{if◌then◌else◌}
use Rattle.std.specs.Option.{option_map}
use Rattle.std.specs.List.{filter_map, cons_option, AllZip}
use Rattle.std.proofs.lemmas.Bool.{le-ltb, lt-ltb, ltb-true, ltb-false}
use Rattle.std.proofs.lemmas.List.{append-nil, length-map}
use Rattle.std.proofs.lemmas.List.Elements.{All-nil, All-cons, All-head, All-tail, filter_map-append}
use Rattle.std.proofs.lemmas.List.Sorted.{All-permutation, IsPermutation-sym}
use Rattle.std.proofs.lemmas.Slice.Zip.{AllZip-long}
use Rattle.binfarce_bytes.specs.Sizes.{RowAddress, arranged, addresses_of}
use Rattle.binfarce_pe.specs.PeSymbols.{CoffTable, record_count, symbol_of, rows_from, row_numbers}
use Rattle.binfarce_pe.specs.PeRules.{SectionRules, accepted_name, ends_at, ending_row, ending_rows, entry_under, entries_under}
use Rattle.binfarce_pe.specs.machine.RawPe.{numbered, IsNameOf, HoldsThese, ending_name}
use Rattle.binfarce_bytes.proofs.Arranging.{arranged_same}

-- the number of the row after row k
abbrev pub after : CoffTable → ℕ → ℕ
after table k = k + 1 + (symbol_of table k).number_of_aux_symbols

no_rows : (table : CoffTable) (n k : ℕ) → record_count table ≤ k → rows_from table n k ≡ []
unfolding rows_from
no_rows table zero k past = refl
no_rows table (suc n) k past = rw (le-ltb k (record_count table) past) refl

one_row : (table : CoffTable) (n k : ℕ) → k < record_count table → rows_from table (suc n) k ≡ k ∷ rows_from table n (after table k)
unfolding rows_from
one_row table n k within = rw (lt-ltb k (record_count table) within) refl

-- more steps find no more rows
rows_enough : (table : CoffTable) (n m k : ℕ) → record_count table ≤ k + n → record_count table ≤ k + m → rows_from table n k ≡ rows_from table m k
rows_enough table zero m k enough also = no_rows table zero k (omega arith) ∙ sym (no_rows table m k (omega arith))
rows_enough table (suc n) zero k enough also = no_rows table (suc n) k (omega arith) ∙ sym (no_rows table zero k (omega arith))
rows_enough table (suc n) (suc m) k enough also = by_test (nat_lt k (record_count table)) refl (λ within. rows_enough table n m (after table k) (omega arith) (omega arith))
  where
    by_test : (b : Bool) → nat_lt k (record_count table) ≡ b → (k < record_count table → rows_from table n (after table k) ≡ rows_from table m (after table k)) → rows_from table (suc n) k ≡ rows_from table (suc m) k
    by_test true e rest =
        let within : k < record_count table = ltb-true k (record_count table) e in
        one_row table n k within ∙ ap (λ (ks : List ℕ). k ∷ ks) (rest within) ∙ sym (one_row table m k within)
    by_test false e rest =
        let past : record_count table ≤ k = ltb-false k (record_count table) e in
        no_rows table (suc n) k past ∙ sym (no_rows table (suc m) k past)

-- the numbers of the rows from row k on
abbrev pub rows_left : CoffTable → ℕ → List ℕ
rows_left table k = rows_from table (record_count table - k) k

pub all_left : (table : CoffTable) → row_numbers table ≡ rows_left table 0
all_left table = ap (λ (n : ℕ). rows_from table n 0) (omega arith)

pub none_left : (table : CoffTable) (k : ℕ) → record_count table ≤ k → rows_left table k ≡ []
none_left table k past = no_rows table (record_count table - k) k past

pub one_left : (table : CoffTable) (k : ℕ) → k < record_count table → rows_left table k ≡ k ∷ rows_left table (after table k)
one_left table k within =
    let one : rows_from table (record_count table - k) k ≡ k ∷ rows_from table (record_count table - k - 1) (after table k) =
    ap (λ (n : ℕ). rows_from table n k) (omega arith) ∙ one_row table (record_count table - k - 1) k within in
    let rest : rows_from table (record_count table - k - 1) (after table k) ≡ rows_left table (after table k) =
    rows_enough table (record_count table - k - 1) (record_count table - after table k) (after table k) (omega arith) (omega arith) in
    one ∙ ap (λ (ks : List ℕ). k ∷ ks) rest

-- these rows come before row k, and all others from it on
abbrev pub AreBefore : CoffTable → ℕ → List ℕ → Type 0
AreBefore table k before = row_numbers table ≡ before ++ rows_left table k

-- so does row k come before the next
pub one_before : (table : CoffTable) (k next : ℕ) (before : List ℕ) → k < record_count table → next ≡ after table k → AreBefore table k before → AreBefore table next (before ++ k ∷ [])
one_before table k next before within follows are =
    are ∙ ap (λ (ks : List ℕ). before ++ ks) (one_left table k within ∙ ap (λ (n : ℕ). k ∷ rows_left table n) (sym follows)) ∙ sym (append_assoc before (k ∷ []) (rows_left table next))

-- and past the last record all are
pub all_before : (table : CoffTable) (k : ℕ) (before : List ℕ) → record_count table ≤ k → AreBefore table k before → row_numbers table ≡ before
all_before table k before past are = are ∙ rw (none_left table k past) (append-nil before)

-- row k, with its address
abbrev pub row_at : CoffTable → ℕ → RowAddress
row_at table k = record { address = (symbol_of table k).value; row = k }

-- a row that ends no size
pub not_ending : (table : CoffTable) (rules : SectionRules) (k : ℕ) → ending_name table rules k (symbol_of table k) ≡ None → (ending_row table rules k ≡ None) × (accepted_name table rules.accepts k (symbol_of table k) ≡ None)
not_ending table rules k e = by_test (ends_at table rules k (symbol_of table k)) (accepted_name table rules.accepts k (symbol_of table k)) e
  where
    by_test : (b : Bool) (o : Option (List ℕ)) → (if b then Some o else option_map (λ (name : List ℕ). Some name) o) ≡ None → ((if b then Some (row_at table k) else option_map (λ _. row_at table k) o) ≡ None) × (o ≡ None)
    by_test true o e = absurd cc
    by_test false None e = (refl, refl)
    by_test false (Some name) e = absurd cc

-- one that ends sizes, with its name where it is kept
pub ending : (table : CoffTable) (rules : SectionRules) (k : ℕ) (name : Option (List ℕ)) → ending_name table rules k (symbol_of table k) ≡ Some name → (ending_row table rules k ≡ Some (row_at table k)) × (accepted_name table rules.accepts k (symbol_of table k) ≡ name)
ending table rules k name e = by_test (ends_at table rules k (symbol_of table k)) (accepted_name table rules.accepts k (symbol_of table k)) e
  where
    by_test : (b : Bool) (o : Option (List ℕ)) → (if b then Some o else option_map (λ (name : List ℕ). Some name) o) ≡ Some name → ((if b then Some (row_at table k) else option_map (λ _. row_at table k) o) ≡ Some (row_at table k)) × (o ≡ name)
    by_test true o e = (refl, cc)
    by_test false None e = absurd cc
    by_test false (Some n) e = (refl, cc)

-- a row that is kept ends sizes
pub kept_ends : (table : CoffTable) (rules : SectionRules) (k : ℕ) (name : List ℕ) → accepted_name table rules.accepts k (symbol_of table k) ≡ Some name → ending_row table rules k ≡ Some (row_at table k)
kept_ends table rules k name e = by_test (ends_at table rules k (symbol_of table k)) (accepted_name table rules.accepts k (symbol_of table k)) e
  where
    by_test : (b : Bool) (o : Option (List ℕ)) → o ≡ Some name → (if b then Some (row_at table k) else option_map (λ _. row_at table k) o) ≡ Some (row_at table k)
    by_test true o e = refl
    by_test false None e = absurd cc
    by_test false (Some n) e = refl

-- a row that ends sizes has its number
pub row_number : (table : CoffTable) (rules : SectionRules) (k : ℕ) (r : RowAddress) → ending_row table rules k ≡ Some r → r.row ≡ k
row_number table rules k r e = by_test (ends_at table rules k (symbol_of table k)) (accepted_name table rules.accepts k (symbol_of table k)) e
  where
    by_test : (b : Bool) (o : Option (List ℕ)) → (if b then Some (row_at table k) else option_map (λ _. row_at table k) o) ≡ Some r → r.row ≡ k
    by_test true o e = let same : row_at table k ≡ r = cc in sym (ap (λ (s : RowAddress). s.row) same)
    by_test false None e = absurd cc
    by_test false (Some n) e = let same : row_at table k ≡ r = cc in sym (ap (λ (s : RowAddress). s.row) same)

-- those of these rows that end sizes are held
abbrev pub HoldsOf : CoffTable → SectionRules → List ℕ → List RowAddress → List (Option (List ℕ)) → Type 0
HoldsOf table rules before rows names = HoldsThese table rules.accepts (filter_map (ending_row table rules) before) rows names

pub holds_none : (table : CoffTable) (rules : SectionRules) → HoldsOf table rules [] [] []
holds_none table rules = record { rows_are = refl; names_are = tt }

-- a row that ends no size adds nothing
pub goes_on : (table : CoffTable) (rules : SectionRules) (before : List ℕ) (k : ℕ) (rows : List RowAddress) (names : List (Option (List ℕ))) → ending_name table rules k (symbol_of table k) ≡ None → HoldsOf table rules before rows names → HoldsOf table rules (before ++ k ∷ []) rows names
goes_on table rules before k rows names none h =
    let same : filter_map (ending_row table rules) (before ++ k ∷ []) ≡ filter_map (ending_row table rules) before =
    filter_map-append (ending_row table rules) before (k ∷ []) ∙ rw (not_ending table rules k none).0 (append-nil (filter_map (ending_row table rules) before)) in
    subst (λ (these : List RowAddress). HoldsThese table rules.accepts these rows names) (sym same) h

all_zip_push : {A B : Type 0} (R : A → B → Type 0) (xs : List A) (ys : List B) (x : A) (y : B) → AllZip R xs ys → R x y → AllZip R (xs ++ x ∷ []) (ys ++ y ∷ [])
all_zip_push R [] [] x y all r = (r, tt)
all_zip_push R [] (b ∷ ys) x y all r = absurd all
all_zip_push R (a ∷ xs) [] x y all r = absurd all
all_zip_push R (a ∷ xs) (b ∷ ys) x y all r = (all.0, all_zip_push R xs ys x y all.1 r)

numbered_push : (n a m : ℕ) (addresses : List ℕ) → m ≡ n + length addresses → numbered n (addresses ++ a ∷ []) ≡ numbered n addresses ++ record { address = a; row = m } ∷ []
numbered_push n a m [] at = let same : m ≡ n = omega arith in ap (λ (i : ℕ). record { address = a; row = i } ∷ []) (sym same)
numbered_push n a m (b ∷ addresses) at = ap (λ (rs : List RowAddress). record { address = b; row = n } ∷ rs) (numbered_push (n + 1) a m addresses (omega arith))

addresses_push : (xs : List RowAddress) (x : RowAddress) → addresses_of (xs ++ x ∷ []) ≡ addresses_of xs ++ x.address ∷ []
addresses_push [] x = refl
addresses_push (y ∷ xs) x = ap (λ (addresses : List ℕ). y.address ∷ addresses) (addresses_push xs x)

-- one that ends sizes is held after those so far
pub one_more_held : (table : CoffTable) (rules : SectionRules) (before : List ℕ) (k : ℕ) (name : Option (List ℕ)) (rows : List RowAddress) (names : List (Option (List ℕ))) (n : ℕ) → ending_name table rules k (symbol_of table k) ≡ Some name → n ≡ length names
    → HoldsOf table rules before rows names → HoldsOf table rules (before ++ k ∷ []) (rows ++ record { address = (symbol_of table k).value; row = n } ∷ []) (names ++ name ∷ [])
one_more_held table rules before k name rows names n some long h =
    let these = filter_map (ending_row table rules) before in
    let x = row_at table k in
    let is = ending table rules k name some in
    let more : filter_map (ending_row table rules) (before ++ k ∷ []) ≡ these ++ x ∷ [] =
    filter_map-append (ending_row table rules) before (k ∷ []) ∙ rw is.0 refl in
    let here : n ≡ 0 + length (addresses_of these) = omega (arith, AllZip-long (IsNameOf table rules.accepts) these names h.names_are, length-map these (λ r. r.address)) in
    subst (λ (others : List RowAddress). HoldsThese table rules.accepts others (rows ++ record { address = x.address; row = n } ∷ []) (names ++ name ∷ [])) (sym more)
    (record {
      rows_are =
          ap (λ (rs : List RowAddress). rs ++ record { address = x.address; row = n } ∷ []) h.rows_are
          ∙ sym (numbered_push 0 x.address n (addresses_of these) here)
          ∙ ap (numbered 0) (sym (addresses_push these x));
      names_are = all_zip_push (IsNameOf table rules.accepts) these names x name h.names_are is.1;
    })

-- where these are all rows, all that end sizes are held
pub holds_all : (table : CoffTable) (rules : SectionRules) (before : List ℕ) (rows : List RowAddress) (names : List (Option (List ℕ))) → row_numbers table ≡ before → HoldsOf table rules before rows names → HoldsThese table rules.accepts (ending_rows table rules) rows names
unfolding ending_rows
holds_all table rules before rows names all h = subst (λ (ks : List ℕ). HoldsOf table rules ks rows names) (sym all) h

-- the row isn't kept
abbrev pub IsLeftOut : CoffTable → SectionRules → ℕ → Type 0
IsLeftOut table rules k = accepted_name table rules.accepts k (symbol_of table k) ≡ None

left_out : (table : CoffTable) (rules : SectionRules) (ks : List ℕ) → All (IsLeftOut table rules) ks → All (λ r. IsLeftOut table rules r.row) (filter_map (ending_row table rules) ks)
left_out table rules [] all = All-nil (λ r. IsLeftOut table rules r.row)
left_out table rules (k ∷ ks) all = by_row (ending_row table rules k) refl (left_out table rules ks (All-tail (IsLeftOut table rules) k ks all))
  where
    by_row : (o : Option RowAddress) → ending_row table rules k ≡ o → All (λ r. IsLeftOut table rules r.row) (filter_map (ending_row table rules) ks) → All (λ r. IsLeftOut table rules r.row) (cons_option o (filter_map (ending_row table rules) ks))
    by_row None is rest = rest
    by_row (Some r) is rest =
        All-cons (λ r. IsLeftOut table rules r.row) r (filter_map (ending_row table rules) ks)
        (subst (IsLeftOut table rules) (sym (row_number table rules k r is)) (All-head (IsLeftOut table rules) k ks all)) rest

no_entry : (table : CoffTable) (rules : SectionRules) (addresses : List ℕ) (rows : List RowAddress) → All (λ r. IsLeftOut table rules r.row) rows → filter_map (entry_under table rules addresses) rows ≡ []
no_entry table rules addresses [] all = refl
no_entry table rules addresses (r ∷ rows) all =
    rw (All-head (λ r. IsLeftOut table rules r.row) r rows all) (no_entry table rules addresses rows (All-tail (λ r. IsLeftOut table rules r.row) r rows all))

-- where no row is kept there is no entry
pub no_entries : (table : CoffTable) (rules : SectionRules) → All (IsLeftOut table rules) (row_numbers table) → entries_under table rules ≡ []
unfolding entries_under ending_rows
no_entries table rules all =
    no_entry table rules (addresses_of (ending_rows table rules)) (arranged (ending_rows table rules))
    (All-permutation (λ r. IsLeftOut table rules r.row) (ending_rows table rules) (arranged (ending_rows table rules)) (arranged_same (ending_rows table rules)) (left_out table rules (row_numbers table) all))

no_entry_of : (table : CoffTable) (rules : SectionRules) (addresses : List ℕ) (rows : List RowAddress) → filter_map (entry_under table rules addresses) rows ≡ [] → All (λ r. IsLeftOut table rules r.row) rows
no_entry_of table rules addresses [] none = All-nil (λ r. IsLeftOut table rules r.row)
no_entry_of table rules addresses (r ∷ rows) none = by_name (accepted_name table rules.accepts r.row (symbol_of table r.row)) refl none (no_entry_of table rules addresses rows)
  where
    by_name : (o : Option (List ℕ)) → accepted_name table rules.accepts r.row (symbol_of table r.row) ≡ o
        → cons_option (option_map (λ name. record { name = name; address = r.address; size = rules.size addresses r.address }) o) (filter_map (entry_under table rules addresses) rows) ≡ []
        → (filter_map (entry_under table rules addresses) rows ≡ [] → All (λ r. IsLeftOut table rules r.row) rows)
        → All (λ r. IsLeftOut table rules r.row) (r ∷ rows)
    by_name None is none others = All-cons (λ r. IsLeftOut table rules r.row) r rows is (others none)
    by_name (Some name) is none others = absurd cc

last_of : {A : Type 0} (P : A → Type 0) (xs : List A) (x : A) (ys : List A) → All P (xs ++ x ∷ ys) → P x
last_of P [] x ys all = All-head P x ys all
last_of P (y ∷ xs) x ys all = last_of P xs x ys (All-tail P y (xs ++ x ∷ ys) all)

-- where one is kept there is an entry
pub some_entry : (table : CoffTable) (rules : SectionRules) (before : List ℕ) (k : ℕ) (name : List ℕ) → k < record_count table → AreBefore table k before → accepted_name table rules.accepts k (symbol_of table k) ≡ Some name → entries_under table rules ≢ []
unfolding entries_under ending_rows
some_entry table rules before k name within are some none =
    let these = ending_rows table rules in
    let split : these ≡ filter_map (ending_row table rules) before ++ row_at table k ∷ filter_map (ending_row table rules) (rows_left table (after table k)) =
    ap (filter_map (ending_row table rules)) (are ∙ ap (λ (ks : List ℕ). before ++ ks) (one_left table k within))
    ∙ filter_map-append (ending_row table rules) before (k ∷ rows_left table (after table k))
    ∙ rw (kept_ends table rules k name some) refl in
    let all : All (λ r. IsLeftOut table rules r.row) these =
    All-permutation (λ r. IsLeftOut table rules r.row) (arranged these) these (IsPermutation-sym these (arranged these) (arranged_same these)) (no_entry_of table rules (addresses_of these) (arranged these) none) in
    let out : accepted_name table rules.accepts k (symbol_of table k) ≡ None =
    last_of (λ r. IsLeftOut table rules r.row) (filter_map (ending_row table rules) before) (row_at table k) (filter_map (ending_row table rules) (rows_left table (after table k))) (subst (λ (rs : List RowAddress). All (λ r. IsLeftOut table rules r.row) rs) split all) in
    cc (sym some ∙ out)

numbered_long : (n : ℕ) (addresses : List ℕ) → length (numbered n addresses) ≡ length addresses
numbered_long n [] = refl
numbered_long n (a ∷ addresses) = ap suc (numbered_long (n + 1) addresses)
