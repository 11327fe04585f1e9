-- The bytes that count for sections, and those that count for none.
use Rattle.std.proofs.Common.{◌≡◌, ℕ, zero, suc, ◌+◌, ◌-◌, ◌<◌, ◌^◌, ◌≤◌, Bool, true, false, not, ◌&&◌, ◌||◌, List, [], ◌∷◌, map, refl, arith}
use Rattle.std.proofs.lemmas.List.Sorted.{sum_by-IsPermutation}
use Rattle.std.proofs.lemmas.List.Sums.{sum_by-cons}
use Rattle.std.specs.List.{list_any}
use Rattle.std.specs.Prelude.{All, if◌then◌else◌}
use Rattle.binfarce_sections.specs.declared.sums.Share as code_share
use Rattle.binfarce_sections.specs.Section.{Section}
use Rattle.binfarce_sections.specs.Sums.{AreSharesOf, Share, count, has, new_bytes, shares_after, shares_of, total, total_memory}
use Rattle.binfarce_sections.specs.Views.{share_view}
use Rattle.binfarce_sections.specs.machine.Summed.{AreWhole, IsNamed}

-- a number passes both tests at once, the second alone, or neither
one_number : (a b : Bool) → (if a && not b then 1 else 0) + (if b then 1 else 0) ≡ (if a || b then 1 else 0)
one_number true true = refl
one_number true false = refl
one_number false true = refl
one_number false false = refl

-- numbers of either test: those of the first that aren't of the second, and those of the second
either : (a b : ℕ → Bool) (n : ℕ) → count (λ i. a i && not (b i)) n + count b n ≡ count (λ i. a i || b i) n
either a b zero = refl
either a b (suc n) = omega (arith, either a b n, one_number (a n) (b n))

at_most_one : (b : Bool) → (if b then 1 else 0) ≤ 1
at_most_one true = omega arith
at_most_one false = omega arith

count_le : (test : ℕ → Bool) (n : ℕ) → count test n ≤ n
count_le test zero = omega arith
count_le test (suc n) = omega (arith, count_le test n, at_most_one (test n))

-- with the bytes of the sections before them
total_le : (len : ℕ) (before sections : List Section) → total (shares_after len before sections) + count (λ offset. list_any (has offset) before) len ≤ len
total_le len before [] = omega (arith, count_le (λ offset. list_any (has offset) before) len)
total_le len before (s ∷ others) = omega (
  arith,
  sum_by-cons (λ (x : Share). x.bytes) (record { section = s; bytes = new_bytes len before s }) (shares_after len (s ∷ before) others),
  either (λ offset. has offset s) (λ offset. list_any (has offset) before) len,
  total_le len (s ∷ before) others,
)

pub all_le : (len : ℕ) (sections : List Section) → total (shares_of len sections) ≤ len
all_le len sections = omega (arith, total_le len [] sections)

-- in any order they are no more than the file has, and with those that count for none they are all
pub sums_whole : (len rest memory : ℕ) (sections : List Section) (ranked : List code_share.Share) → AreSharesOf len sections (map share_view ranked) → All IsNamed ranked
    → rest ≡ len - total (map share_view ranked) → memory ≡ total_memory (map share_view ranked) → len < 2 ^ 64 → memory < 2 ^ 128 → AreWhole ranked rest len memory
sums_whole len rest memory sections ranked (sorted, by_offset, by_size) named rest_is memory_is fits memory_fits = record {
  named = named;
  length_is = omega (arith, rest_is, all_le len sorted, sum_by-IsPermutation (λ (s : Share). s.bytes) (shares_of len sorted) (map share_view ranked) by_size.same);
  memory_is = omega (arith, memory_is);
  fits = fits;
  memory_fits = memory_fits;
}
