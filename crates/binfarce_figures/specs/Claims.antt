-- How many bytes each function symbol adds to those before it.
use Rattle.std.specs.Prelude.{◌≡◌, ◌<◌, ℕ, ◌+◌, ◌*◌, ◌^◌, zero, suc, Bool, not, ◌&&◌, List, [], ◌∷◌, IsPermutation, nat_le, nat_lt, if◌then◌else◌}
use Rattle.std.specs.Cmp.Lexicographic.{slice_cmp}
use Rattle.std.specs.List.{list_any, sum_by}
use Rattle.std.specs.List.Sorted.{IsSorted}
use Rattle.std.specs.Ordering.{nat_cmp, ordering_then}
use Rattle.std.specs.declared.cmp.Ordering.{Ordering}
use Rattle.binfarce.specs.SectionEntries.{SectionEntry, SelectedSymbols}

-- where an entry begins: at its address, in a range for its section alone. An address and a size are below 2^64 each, so an entry ends below 2^65 in that range
abbrev pub place_of : SectionEntry → ℕ
place_of e = e.section * 2 ^ 65 + e.entry.address

-- inner entries come before outer ones: of two the one that begins last, of one place the shorter one, and of one size the one whose stored name is less
abbrev pub inner_cmp : SectionEntry → SectionEntry → Ordering
inner_cmp a b = ordering_then (ordering_then (nat_cmp (place_of b) (place_of a)) (nat_cmp a.entry.size b.entry.size)) (slice_cmp nat_cmp a.entry.name b.entry.name)

-- sorted is entries, inner ones before outer ones
pub record IsInward (entries sorted : List SectionEntry) : Type 0 where
  pub same : IsPermutation entries sorted
  pub rises : IsSorted inner_cmp sorted

-- an entry has the byte at a place
abbrev pub has : (place : ℕ) → SectionEntry → Bool
has place e = nat_le (place_of e) place && nat_lt place (place_of e + e.entry.size)

-- how many of the numbers below n pass a test
abbrev pub count : (ℕ → Bool) → ℕ → ℕ
count test zero = 0
count test (suc n) = count test n + (if test n then 1 else 0)

-- how many bytes of an entry none of those before it has
abbrev pub new_bytes : (before : List SectionEntry) → SectionEntry → ℕ
new_bytes before e = count (λ n. not (list_any (has (place_of e + n)) before)) e.entry.size

-- an entry with another size
abbrev pub with_size : SectionEntry → ℕ → SectionEntry
with_size e size = record { section = e.section; info = e.info; version = e.version; entry = record { name = e.entry.name; address = e.entry.address; size = size } }

-- entries with the bytes that each adds as its size
abbrev pub claimed_after : (before : List SectionEntry) → List SectionEntry → List SectionEntry
claimed_after before [] = []
claimed_after before (e ∷ others) = with_size e (new_bytes before e) ∷ claimed_after (e ∷ before) others

abbrev pub claimed : List SectionEntry → List SectionEntry
claimed entries = claimed_after [] entries

-- claims are entries with the bytes that each adds, where each byte counts for the innermost that has it
abbrev pub AreClaimsOf : (entries claims : List SectionEntry) → Type 0
AreClaimsOf entries claims = (sorted : List SectionEntry) × IsInward entries sorted × (claims ≡ claimed sorted)

-- the sum of all sizes
abbrev pub sum_of_sizes : List SectionEntry → ℕ
sum_of_sizes entries = sum_by (λ e. e.entry.size) entries

-- a place that no entry reaches: the sum of their ends
abbrev pub past_all : List SectionEntry → ℕ
past_all entries = sum_by (λ e. place_of e + e.entry.size) entries

-- how many bytes entries have: each byte counts once, however many have it
abbrev pub bytes_of : List SectionEntry → ℕ
bytes_of entries = count (λ place. list_any (has place) entries) (past_all entries)

-- n is how many bytes the function symbols of a file's answer have
abbrev pub IsSumOf : SelectedSymbols → ℕ → Type 0
IsSumOf selected n = n ≡ bytes_of selected.entries

-- they can be summed where that is a number of 64 bits
abbrev pub SumFits : SelectedSymbols → Type 0
SumFits selected = bytes_of selected.entries < 2 ^ 64
