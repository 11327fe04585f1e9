-- The two numbers of each key, and what shares add to them.
use Rattle.std.specs.Prelude.{◌≡◌, ℕ, ◌+◌, ◌<◌, ◌^◌, List, ◌++◌, map, String, Some}
use Rattle.std.specs.BTreeMap.{BTreeMap, get_by_text}
use Rattle.std.specs.Global.{Global}
use Rattle.std.specs.Map.{update}
use Rattle.std.specs.Option.{is_some, unwrap_or}
use Rattle.std.specs.Str.{bytes_eq}
use Rattle.binfarce_tools.specs.Report.{Share, sum_of, total}
use Rattle.binfarce_tools.specs.Sums.{occurs}
use Rattle.binfarce_figures.specs.declared.key.Grouping.{Grouping}
use Rattle.binfarce_figures.specs.declared.sums.Counting.{Counting}
use Rattle.binfarce_figures.specs.declared.sums.Counting.TheVariants.{Symbols, Old, New}
use Rattle.binfarce_figures.specs.declared.sums.Numbers.{Numbers}
use Rattle.binfarce_figures.specs.Claimed.{Claimed}
use Rattle.binfarce_figures.specs.machine.Shares.{AreSharesWith}

-- what a function symbol that adds so many bytes adds to the two numbers of its key
abbrev pub counts : Counting → (size : ℕ) → Numbers
counts Symbols size = record { sum = size; other = 1 }
counts Old size = record { sum = size; other = 0 }
counts New size = record { sum = 0; other = size }

-- what shares add to the first number, and to the second
abbrev pub firsts : Counting → List Share → List Share
firsts counting shares = map (λ s. record { name = s.name; size = (counts counting s.size).sum }) shares

abbrev pub seconds : Counting → List Share → List Share
seconds counting shares = map (λ s. record { name = s.name; size = (counts counting s.size).other }) shares

-- the numbers of a key, 0 if it has none
abbrev pub numbers_at : BTreeMap (String Global) Numbers → (name : List ℕ) → Numbers
numbers_at numbers name = unwrap_or (get_by_text numbers name) (record { sum = 0; other = 0 })

-- so much was added to the numbers of a key
abbrev pub AddsNumbers : BTreeMap (String Global) Numbers → (name : List ℕ) → (more : Numbers) → BTreeMap (String Global) Numbers → Type 0
AddsNumbers old name more new =
    (other : List ℕ) → get_by_text new other ≡ update bytes_eq (get_by_text old) name (Some (record { sum = (numbers_at old name).sum + more.sum; other = (numbers_at old name).other + more.other })) other

-- numbers are the sums of two lists of shares that have the same names
pub record AreNumbersOf (first second : List Share) (numbers : BTreeMap (String Global) Numbers) : Type 0 where
  pub sums_are : (name : List ℕ) → sum_of first name ≡ (numbers_at numbers name).sum
  pub others_are : (name : List ℕ) → sum_of second name ≡ (numbers_at numbers name).other
  pub names_are : (name : List ℕ) → occurs first name ≡ is_some (get_by_text numbers name)
  pub same_names : map (λ s. s.name) second ≡ map (λ s. s.name) first
  pub sums_fit : total first < 2 ^ 64
  pub others_fit : total second < 2 ^ 64

-- shares are added to both lists of them
abbrev pub AddsShares : Counting → List Share → (old new : BTreeMap (String Global) Numbers) → Type 0
AddsShares counting shares old new =
    (first second : List Share) → total (first ++ firsts counting shares) < 2 ^ 64 → total (second ++ seconds counting shares) < 2 ^ 64
    → AreNumbersOf first second old → AreNumbersOf (first ++ firsts counting shares) (second ++ seconds counting shares) new

-- numbers are the sums, and the counts, of what claims add by their keys
abbrev pub AreNumbersFor : Grouping → Claimed → BTreeMap (String Global) Numbers → Type 0
AreNumbersFor grouping claims numbers = (shares : List Share) × AreSharesWith grouping claims shares × AreNumbersOf shares (seconds Symbols shares) numbers
