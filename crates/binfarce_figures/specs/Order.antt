-- The order of entries.
use Rattle.std.specs.Prelude.{◌≡◌, ℕ, List, Option, Some, None, IsPermutation, map}
use Rattle.std.specs.Cmp.Lexicographic.{slice_cmp}
use Rattle.std.specs.List.{All}
use Rattle.std.specs.List.Sorted.{IsSortedByKey, IsStableByKey}
use Rattle.std.specs.Ordering.{nat_cmp}
use Rattle.std.specs.declared.cmp.Ordering.{Ordering}
use Rattle.binfarce.specs.SectionEntries.{SectionEntry}
use Rattle.binfarce_figures.specs.declared.order.Order.{Order}
use Rattle.binfarce_figures.specs.declared.order.Order.TheVariants.{Address, Size, Name}
use Rattle.binfarce_figures.specs.declared.rows.Naming.{Naming}
use Rattle.binfarce_figures.specs.Rows.{IsNameText}

-- the order in which the greatest comes first
abbrev pub falling : ℕ → ℕ → Ordering
falling a b = nat_cmp b a

-- sorted is rows by a key: rows of one key keep their order
pub record IsByKey {X K : Type 0} (key : X → K) (cmp : K → K → Ordering) (rows sorted : List X) : Type 0 where
  pub same : IsPermutation rows sorted
  pub rises : IsSortedByKey key cmp sorted
  pub keeps : IsStableByKey key cmp rows sorted

abbrev pub IsByAddress : (entries sorted : List SectionEntry) → Type 0
IsByAddress entries sorted = IsByKey (λ e. e.entry.address) nat_cmp entries sorted

-- sorted is entries by falling size, and those of one size by address
abbrev pub IsBySize : (entries sorted : List SectionEntry) → Type 0
IsBySize entries sorted = (rising : List SectionEntry) × IsByAddress entries rising × IsByKey (λ e. e.entry.size) falling rising sorted

-- an entry with what is shown of its name
abbrev pub Named : Type 0
Named = SectionEntry × List ℕ

-- named is entries with what is shown of their names
abbrev pub AreNamed : Naming → List SectionEntry → List Named → Type 0
AreNamed naming entries named = (map (λ n. n.0) named ≡ entries) × All (λ n. IsNameText naming n.0.entry.name n.1) named

-- sorted is entries by the bytes of what is shown of their names, and those of one text by address
abbrev pub IsByName : Naming → (entries sorted : List SectionEntry) → Type 0
IsByName naming entries sorted =
    (rising : List SectionEntry) × IsByAddress entries rising × (named ordered : List Named) × AreNamed naming rising named × IsByKey (λ n. n.1) (slice_cmp nat_cmp) named ordered × AreNamed naming sorted ordered

-- sorted is entries in an order: by rising address, by falling size, or by what is shown of the name; entries of one key in the order of their addresses, and those of one address in their given order. Without an order they stay as they are
abbrev pub IsInOrder : Naming → Option Order → (entries sorted : List SectionEntry) → Type 0
IsInOrder naming None entries sorted = sorted ≡ entries
IsInOrder naming (Some Address) entries sorted = IsByAddress entries sorted
IsInOrder naming (Some Size) entries sorted = IsBySize entries sorted
IsInOrder naming (Some Name) entries sorted = IsByName naming entries sorted
