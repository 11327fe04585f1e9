-- Rows that a sort by a key gives.
use Rattle.std.proofs.Common.{◌≡◌, ◌+◌, ◌<◌, ℕ, Bool, true, false, cond, not, ◌&&◌, List, [], ◌∷◌, Result, Ok, Err, filter, get_or, length, map, nat_cmp, refl, sym, ap, ◌∙◌, arith}
use Rattle.std.proofs.lemmas.List.{get_or-map, length-map}
use Rattle.std.proofs.lemmas.List.Sorted.{IsPermutation-map}
use Rattle.std.specs.Fn.{ComputesKey}
use Rattle.std.specs.Prelude.{OnOk, IsPermutation}
use Rattle.std.specs.List.Sorted.{IsSortedByKey, IsStableByKey, IsSortedByKeyClosure, IsStableByKeyClosure, ties}
use Rattle.std.specs.Ordering.{is_lt}
use Rattle.std.specs.declared.cmp.Ordering.{Ordering}
use Rattle.std.specs.declared.cmp.Reverse.{Reverse}
use denote.Ref.{Bor}
use denote.Param.Members.{Mut}
use Rattle.binfarce_sections.specs.Sums.{IsByKey, falling}

-- rows by a key, for another key of the same order
pub by_key_as : {X F K L E : Type 0} (g : Mut F (Bor X × Unit {0}) K) (f : F) (key : X → K) (cmp : K → K → Ordering) (seen : X → L) (order : L → L → Ordering) (rows sorted : List X) (result : Result (Unit {0}) E)
    → ComputesKey g key f → IsPermutation rows sorted → OnOk result (IsSortedByKeyClosure g cmp f sorted) → IsStableByKeyClosure g cmp f rows sorted
    → (IsSortedByKey key cmp sorted → IsSortedByKey seen order sorted) → (IsStableByKey key cmp rows sorted → IsStableByKey seen order rows sorted) → OnOk result (IsByKey seen order rows sorted)
by_key_as g f key cmp seen order rows sorted (Ok x) computes same rises keeps rises_so keeps_so = record { same = same; rises = rises_so (rises key computes); keeps = keeps_so (keeps key computes) }
by_key_as g f key cmp seen order rows sorted (Err e) computes same rises keeps rises_so keeps_so = tt

-- the least key comes first
pub by_rising : {X F E : Type 0} (g : Mut F (Bor X × Unit {0}) ℕ) (f : F) (key : X → ℕ) (rows sorted : List X) (result : Result (Unit {0}) E)
    → ComputesKey g key f → IsPermutation rows sorted → OnOk result (IsSortedByKeyClosure g nat_cmp f sorted) → IsStableByKeyClosure g nat_cmp f rows sorted → OnOk result (IsByKey key nat_cmp rows sorted)
by_rising g f key rows sorted result computes same rises keeps = by_key_as g f key nat_cmp key nat_cmp rows sorted result computes same rises keeps (λ s. s) (λ s. s)

abbrev pub reversed : ℕ → Reverse ℕ
reversed n = record { 0 = n }

pub reversed_is : (r : Reverse ℕ) (n : ℕ) → r.0 ≡ n → r ≡ reversed n
reversed_is r n is = ap reversed is

-- the greatest key comes first
pub by_falling : {X F E : Type 0} (g : Mut F (Bor X × Unit {0}) (Reverse ℕ)) (f : F) (key : X → ℕ) (rows sorted : List X) (result : Result (Unit {0}) E)
    → ComputesKey g (λ x. reversed (key x)) f → IsPermutation rows sorted → OnOk result (IsSortedByKeyClosure g (λ a b. nat_cmp b.0 a.0) f sorted) → IsStableByKeyClosure g (λ a b. nat_cmp b.0 a.0) f rows sorted → OnOk result (IsByKey key falling rows sorted)
by_falling g f key rows sorted result computes same rises keeps =
    by_key_as g f (λ x. reversed (key x)) (λ a b. nat_cmp b.0 a.0) key falling rows sorted result computes same rises keeps (λ s. s) (λ s. s)

-- those that pass a test, seen
kept_by : {X Y : Type 0} (f : X → Y) (x : X) (kept : List X) (b : Bool) → cond b (f x ∷ map f kept) (map f kept) ≡ map f (cond b (x ∷ kept) kept)
kept_by f x kept true = refl
kept_by f x kept false = refl

kept : {X Y : Type 0} (f : X → Y) (test : Y → Bool) (xs : List X) → filter test (map f xs) ≡ map f (filter (λ x. test (f x)) xs)
kept f test [] = refl
kept f test (x ∷ xs) = ap (λ (ys : List _). cond (test (f x)) (f x ∷ ys) ys) (kept f test xs) ∙ kept_by f x (filter (λ y. test (f y)) xs) (test (f x))

-- rows by a key of what is seen of them, as they are seen
module _ {X Y K : Type 0} (seen : X → Y) (made : Y → X) (key : Y → K) (cmp : K → K → Ordering) (is : (y : Y) → key (seen (made y)) ≡ key y) (rows sorted : List X) where
  pub by_view : IsByKey (λ x. key (seen x)) cmp rows sorted → IsByKey key cmp (map seen rows) (map seen sorted)
  by_view by = record { same = IsPermutation-map seen rows sorted by.same; rises = rises; keeps = keeps }
    where
      at : (d : Y) (k : ℕ) → k < length sorted → get_or (map seen sorted) k d ≡ seen (get_or sorted k (made d))
      at d k lt = get_or-map seen sorted k (made d) d lt

      rises : IsSortedByKey key cmp (map seen sorted)
      rises k d above lt =
          let long = length-map sorted seen in
          let next : k + 1 < length sorted = omega (arith, lt, long) in
          let this : k < length sorted = omega (arith, next) in
          (λ i. is_lt (cmp (key (at d (k + 1) next i)) (key (at d k this i)))) ∙ by.rises k (made d) above next

      keeps : IsStableByKey key cmp (map seen rows) (map seen sorted)
      keeps y =
          let same = λ (xs : List X). kept seen (ties (λ a b. is_lt (cmp (key a) (key b))) y) xs ∙ (λ i. map seen (filter (λ x. not (is_lt (cmp (sym (is y) i) (key (seen x)))) && not (is_lt (cmp (key (seen x)) (sym (is y) i)))) xs)) in
          same sorted ∙ ap (map seen) (by.keeps (made y)) ∙ sym (same rows)
