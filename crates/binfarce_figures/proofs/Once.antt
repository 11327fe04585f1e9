-- What entries add is how many bytes they have.
use Rattle.std.proofs.Common.{◌≡◌, ℕ, zero, suc, ◌+◌, ◌-◌, ◌<◌, ◌≤◌, Bool, true, false, not, ◌||◌, List, [], ◌∷◌, nat_le, nat_lt, refl, sym, ap, ◌∙◌, arith}
use Rattle.std.specs.List.{list_any}
use Rattle.std.specs.Prelude.{if◌then◌else◌}
use Rattle.std.proofs.lemmas.Bool.Decides.{nat_tests}
use Rattle.std.proofs.lemmas.List.Sorted.{list_any-IsPermutation, sum_by-IsPermutation}
use Rattle.std.proofs.lemmas.List.Sums.{sum_by-cons}
use Rattle.binfarce.specs.SectionEntries.{SectionEntry}
use Rattle.binfarce_figures.specs.Claims.{AreClaimsOf, bytes_of, claimed_after, count, has, new_bytes, past_all, place_of, sum_of_sizes, with_size}

-- tests that answer the same below a number count the same
count_congr : (f g : ℕ → Bool) (n : ℕ) → ((k : ℕ) → k < n → f k ≡ g k) → count f n ≡ count g n
count_congr f g zero is = refl
count_congr f g (suc n) is = rw (count_congr f g n (λ k lt. is k (omega (arith, lt))), is n (omega arith)) refl

-- all numbers below n
count_whole : (n : ℕ) → count (λ k. true) n ≡ n
count_whole zero = refl
count_whole (suc n) = omega (arith, count_whole n)

-- numbers are counted in two parts
count_split : (f : ℕ → Bool) (m n : ℕ) → count f (m + n) ≡ count f m + count (λ k. f (m + k)) n
count_split f m zero = let none : m + 0 ≡ m = omega arith in ap (count f) none ∙ omega arith
count_split f m (suc n) = let next : m + suc n ≡ suc (m + n) = omega arith in ap (count f) next ∙ omega (arith, count_split f m n)

-- all pass a test or don't
count_all : (f : ℕ → Bool) (n : ℕ) → count (λ k. true) n ≡ count (λ k. not (f k)) n + count f n
count_all f zero = omega arith
count_all f (suc n) = by_test (f n) (count_all f n)
  where
    by_test : (b : Bool) → count (λ k. true) n ≡ count (λ k. not (f k)) n + count f n → count (λ k. true) n + 1 ≡ (count (λ k. not (f k)) n + (if not b then 1 else 0)) + (count f n + (if b then 1 else 0))
    by_test true is = omega (arith, is)
    by_test false is = omega (arith, is)

count_none : (n : ℕ) → count (λ k. false) n ≡ 0
count_none zero = refl
count_none (suc n) = omega (arith, count_none n)

-- one entry more has its new bytes more
module _ (before : List SectionEntry) (e : SectionEntry) (bound : ℕ) (within : place_of e + e.entry.size ≤ bound) where
  abbrev m : ℕ
  m = place_of e

  abbrev s : ℕ
  s = e.entry.size

  abbrev old : ℕ → Bool
  old p = list_any (has p) before

  abbrev new : ℕ → Bool
  new p = has p e || old p

  below : (k : ℕ) → k < m → new k ≡ old k
  below k lt = let no : nat_le (place_of e) k ≡ false = grind (arith, nat_tests, lt) in rw no refl

  inside : (k : ℕ) → k < s → new (m + k) ≡ true
  inside k lt =
      let from : nat_le (place_of e) (place_of e + k) ≡ true = grind (arith, nat_tests) in
      let to : nat_lt (place_of e + k) (place_of e + e.entry.size) ≡ true = grind (arith, nat_tests, lt) in rw (from, to) refl

  past : (k : ℕ) → new (m + (s + k)) ≡ old (m + (s + k))
  past k =
      let from : nat_le (place_of e) (place_of e + (e.entry.size + k)) ≡ true = grind (arith, nat_tests) in
      let to : nat_lt (place_of e + (e.entry.size + k)) (place_of e + e.entry.size) ≡ false = grind (arith, nat_tests) in rw (from, to) refl

  one_more : count new bound ≡ new_bytes before e + count old bound
  one_more =
      let r = bound - (m + s) in
      let is : bound ≡ m + (s + r) = omega (arith, within) in
      omega (
        arith,
        ap (count new) is,
        ap (count old) is,
        count_split new m (s + r),
        count_split old m (s + r),
        count_split (λ k. new (m + k)) s r,
        count_split (λ k. old (m + k)) s r,
        count_congr new old m below,
        count_congr (λ k. new (m + k)) (λ k. true) s inside,
        count_all (λ k. old (m + k)) s,
        count_congr (λ k. new (m + (s + k))) (λ k. old (m + (s + k))) r (λ k lt. past k),
      )

-- each entry ends at a bound or before it
abbrev Within : ℕ → List SectionEntry → Type 0
Within bound [] = Unit {0}
Within bound (e ∷ others) = (place_of e + e.entry.size ≤ bound) × Within bound others

within_past : (bound : ℕ) (entries : List SectionEntry) → past_all entries ≤ bound → Within bound entries
within_past bound [] le = tt
within_past bound (e ∷ others) le =
    let more = sum_by-cons (λ (x : SectionEntry). place_of x + x.entry.size) e others in (omega (arith, more, le), within_past bound others (omega (arith, more, le)))

either : (a b c : Bool) → (b || (a || c)) ≡ ((a || b) || c)
either true true c = refl
either true false c = refl
either false b c = refl

or_none : (b : Bool) → (b || false) ≡ b
or_none true = refl
or_none false = refl

adds : (bound : ℕ) (before entries : List SectionEntry) → Within bound entries
    → sum_of_sizes (claimed_after before entries) + count (λ p. list_any (has p) before) bound ≡ count (λ p. list_any (has p) entries || list_any (has p) before) bound
adds bound before [] within = omega arith
adds bound before (e ∷ others) within = omega (
  arith,
  sum_by-cons (λ (x : SectionEntry). x.entry.size) (with_size e (new_bytes before e)) (claimed_after (e ∷ before) others),
  one_more before e bound within.0,
  adds bound (e ∷ before) others within.1,
  ap (λ (test : ℕ → Bool). count test bound) (λ i p. either (has p e) (list_any (has p) others) (list_any (has p) before) i),
)

-- the sum of what entries add is how many bytes they have
pub bytes_are : (entries claims : List SectionEntry) → AreClaimsOf entries claims → sum_of_sizes claims ≡ bytes_of entries
bytes_are entries claims (sorted, by, is) =
    let bound = past_all sorted in
    let same : (p : ℕ) → (list_any (has p) sorted || false) ≡ list_any (has p) entries = λ p. or_none (list_any (has p) sorted) ∙ sym (list_any-IsPermutation (has p) entries sorted by.same) in
    let ends : past_all sorted ≡ past_all entries = sum_by-IsPermutation (λ (e : SectionEntry). place_of e + e.entry.size) entries sorted by.same in
    let counted : count (λ p. list_any (has p) sorted || false) bound ≡ bytes_of entries = λ i. count (λ p. same p i) (ends i) in
    omega (arith, ap sum_of_sizes is, adds bound [] sorted (within_past bound sorted (omega arith)), count_none bound, counted)
