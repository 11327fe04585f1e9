-- Lists that a sort by a key gives.
use Rattle.std.proofs.Common.{◌≡◌, ◌∙◌, ℕ, ◌+◌, Bool, true, false, not, ◌&&◌, List, [], ◌∷◌, Result, Ok, Err, ap, arith, filter, map, nat_cmp, refl, subst, sym}
use Rattle.std.proofs.lemmas.List.{get_or-map, length-map}
use Rattle.std.specs.Fn.{ComputesKey}
use Rattle.std.proofs.lemmas.List.Sorted.{IsPermutation-map, length_permutation}
use Rattle.std.specs.Prelude.{OnOk, IsPermutation, if◌then◌else◌}
use Rattle.std.specs.List.Sorted.{IsSorted, IsSortedByKey, IsStableByKey, IsSortedByKeyClosure, IsStableByKeyClosure}
use Rattle.std.specs.Ordering.{is_lt}
use Rattle.std.specs.declared.cmp.Ordering.{Ordering}
use Rattle.std.specs.declared.cmp.Reverse.{Reverse}
use denote.Ref.{Bor}
use denote.Param.Members.{Mut}
use Rattle.binfarce.specs.SectionEntries.{SectionEntry}
use Rattle.binfarce.specs.SymbolViews.{section_function_view}
use Rattle.binfarce_bytes.specs.declared.functions.SectionFunction.{SectionFunction}
use Rattle.binfarce_figures.specs.declared.order.Row.{Row}
use Rattle.binfarce_figures.specs.Order.{IsByAddress, IsByKey, IsBySize, Named, falling}
use Rattle.binfarce_figures.specs.machine.Listings.{entry_of}

pub by_key : {X F K E : Type 0} (g : Mut F (Bor X × Unit {0}) K) (f : F) (key : X → K) (cmp : K → K → Ordering) (rows sorted : List X) (result : Result (Unit {0}) E)
    → ComputesKey g key f → IsPermutation rows sorted → OnOk result (IsSortedByKeyClosure g cmp f sorted) → IsStableByKeyClosure g cmp f rows sorted → OnOk result (IsByKey key cmp rows sorted)
by_key g f key cmp rows sorted (Ok x) computes same rises keeps = record { same = same; rises = rises key computes; keeps = keeps key computes }
by_key g f key cmp rows sorted (Err e) computes same rises keeps = tt

-- the same, for another key of the same order
pub by_key_as : {X F K L E : Type 0} (g : Mut F (Bor X × Unit {0}) K) (f : F) (key : X → K) (cmp : K → K → Ordering) (seen : X → L) (order : L → L → Ordering) (rows sorted : List X) (result : Result (Unit {0}) E)
    → ComputesKey g key f → IsPermutation rows sorted → OnOk result (IsSortedByKeyClosure g cmp f sorted) → IsStableByKeyClosure g cmp f rows sorted
    → (IsSortedByKey key cmp sorted → IsSortedByKey seen order sorted) → (IsStableByKey key cmp rows sorted → IsStableByKey seen order rows sorted) → OnOk result (IsByKey seen order rows sorted)
by_key_as g f key cmp seen order rows sorted (Ok x) computes same rises keeps rises_so keeps_so = record { same = same; rises = rises_so (rises key computes); keeps = keeps_so (keeps key computes) }
by_key_as g f key cmp seen order rows sorted (Err e) computes same rises keeps rises_so keeps_so = tt

-- the same, where the key is a number and the greatest comes first
abbrev pub reversed : ℕ → Reverse ℕ
reversed n = record { 0 = n }

pub reversed_is : (r : Reverse ℕ) (n : ℕ) → r.0 ≡ n → r ≡ reversed n
reversed_is r n is = ap reversed is

pub by_falling : {X F E : Type 0} (g : Mut F (Bor X × Unit {0}) (Reverse ℕ)) (f : F) (measure : X → ℕ) (rows sorted : List X) (result : Result (Unit {0}) E) → ComputesKey g (λ x. reversed (measure x)) f → IsPermutation rows sorted
    → OnOk result (IsSortedByKeyClosure g (λ a b. nat_cmp b.0 a.0) f sorted) → IsStableByKeyClosure g (λ a b. nat_cmp b.0 a.0) f rows sorted → OnOk result (IsByKey measure falling rows sorted)
by_falling g f measure rows sorted result computes same rises keeps =
    by_key_as g f (λ x. reversed (measure x)) (λ a b. nat_cmp b.0 a.0) measure falling rows sorted result computes same rises keeps (λ s. s) (λ s. s)

-- values are sorted as what they are values of
pub sorted_map : {X Y : Type 0} (f : X → Y) (cmp : Y → Y → Ordering) (xs : List X) → IsSortedByKey f cmp xs → IsSorted cmp (map f xs)
sorted_map f cmp [] rises = λ k d le lt. absurd (omega (arith, lt))
sorted_map f cmp (x ∷ xs) rises = λ k d le lt.
    let n = length-map (x ∷ xs) f in
    let first = get_or-map f (x ∷ xs) k x d (omega (arith, n, lt)) in
    let next = get_or-map f (x ∷ xs) (k + 1) x d (omega (arith, n, lt)) in
    (λ i. is_lt (cmp (next i) (first i))) ∙ rises k x le (omega (arith, n, lt))

-- values are sorted by a key as what they are values of, which can have any key
module _ {X Y K : Type 0} (f : X → Y) (key : Y → K) (cmp : K → K → Ordering) (put : K → X → X) (has : (k : K) (x : X) → key (f (put k x)) ≡ k) where
  -- whether a value ties with a key
  abbrev at : K → Y → Bool
  at k y = not (is_lt (cmp k (key y))) && not (is_lt (cmp (key y) k))

  filter-map : (test : Y → Bool) (xs : List X) → filter test (map f xs) ≡ map f (filter (λ x. test (f x)) xs)
  filter-map test [] = refl
  filter-map test (x ∷ xs) = one (test (f x)) (filter test (map f xs)) (filter (λ x. test (f x)) xs) (filter-map test xs)
    where
      one : (b : Bool) (ys : List Y) (zs : List X) → ys ≡ map f zs → (if b then f x ∷ ys else ys) ≡ map f (if b then x ∷ zs else zs)
      one true ys zs is = ap (λ (l : List Y). f x ∷ l) is
      one false ys zs is = is

  kept_at : (k : K) (x : X) (xs ys : List X) → key (f x) ≡ k → IsStableByKey (λ z. key (f z)) cmp xs ys → filter (at k) (map f ys) ≡ filter (at k) (map f xs)
  kept_at k x xs ys is keeps =
      let same : filter (λ z. at k (f z)) ys ≡ filter (λ z. at k (f z)) xs = subst (λ (j : K). filter (λ z. at j (f z)) ys ≡ filter (λ z. at j (f z)) xs) is (keeps x) in
      filter-map (at k) ys ∙ ap (map f) same ∙ sym (filter-map (at k) xs)

  kept : (xs ys : List X) → IsPermutation xs ys → IsStableByKey (λ z. key (f z)) cmp xs ys → (y : Y) → filter (at (key y)) (map f ys) ≡ filter (at (key y)) (map f xs)
  kept [] [] same keeps y = refl
  kept [] (z ∷ zs) same keeps y = absurd (omega (arith, length_permutation [] (z ∷ zs) same))
  kept (x ∷ xs) ys same keeps y = kept_at (key y) (put (key y) x) (x ∷ xs) ys (has (key y) x) keeps

  pub by_key_of_values : (xs ys : List X) → IsByKey (λ x. key (f x)) cmp xs ys → IsByKey key cmp (map f xs) (map f ys)
  by_key_of_values xs ys by = record {
    same = IsPermutation-map f xs ys by.same;
    rises = sorted_map f (λ a b. cmp (key a) (key b)) ys by.rises;
    keeps = kept xs ys by.same by.keeps;
  }

-- function symbols by address, and then by falling size
pub entries_by_address : (functions sorted : List SectionFunction) → IsByKey (λ (f : SectionFunction). f.function.address) nat_cmp functions sorted → IsByAddress (map section_function_view functions) (map section_function_view sorted)
entries_by_address functions sorted by =
    by_key_of_values section_function_view (λ (e : SectionEntry). e.entry.address) nat_cmp
    (λ k f. record { section = f.section; info = f.info; version = f.version; function = record { name = f.function.name; address = k; size = f.function.size } }) (λ k f. refl) functions sorted by

pub entries_by_size : {E : Type 0} (functions rising sorted : List SectionFunction) (result : Result (Unit {0}) E) → IsByAddress (map section_function_view functions) (map section_function_view rising)
    → OnOk result (IsByKey (λ (f : SectionFunction). f.function.size) falling rising sorted) → OnOk result (IsBySize (map section_function_view functions) (map section_function_view sorted))
entries_by_size functions rising sorted (Ok x) by_address by = (
  map section_function_view rising,
  by_address,
  by_key_of_values section_function_view (λ (e : SectionEntry). e.entry.size) falling
      (λ k f. record { section = f.section; info = f.info; version = f.version; function = record { name = f.function.name; address = f.function.address; size = k } }) (λ k f. refl) rising sorted by,
)
entries_by_size functions rising sorted (Err e) by_address by = tt

-- a row as its entry with the text of its name
abbrev pub named_of : Row → Named
named_of row = (entry_of row, row.name.now)

-- rows by the texts of their names, as entries with these texts
pub named_by_name : (cmp : List ℕ → List ℕ → Ordering) (rows sorted : List Row) → IsByKey (λ (r : Row). r.name.now) cmp rows sorted → IsByKey (λ (n : Named). n.1) cmp (map named_of rows) (map named_of sorted)
named_by_name cmp rows sorted by = by_key_of_values named_of (λ (n : Named). n.1) cmp (λ k r. record { function = r.function; name = record { ref_ptr = r.name.ref_ptr; now = k } }) (λ k r. refl) rows sorted by
