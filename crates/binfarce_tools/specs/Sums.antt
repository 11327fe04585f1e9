-- The sums of sizes by crate, which a report shows.
use Rattle.std.specs.Prelude.{◌≡◌, ℕ, ◌+◌, ◌<◌, ◌^◌, List, Bool, Option, Some, String}
use Rattle.std.specs.BTreeMap.{BTreeMap, get_by_text}
use Rattle.std.specs.List.{list_any}
use Rattle.std.specs.Map.{update}
use Rattle.std.specs.Option.{is_some, unwrap_or}
use Rattle.std.specs.Str.{bytes_eq}
use Rattle.binfarce_tools.specs.declared.report.CrateSums.{CrateSums}
use Rattle.binfarce_tools.specs.Report.{Share, total, sum_of}

-- the sum at a crate's name, 0 if it has none
abbrev pub sum_at : {Y : Type 0} → BTreeMap (String Y) ℕ → List ℕ → ℕ
sum_at crates name = unwrap_or (get_by_text crates name) 0

-- a crate is among these shares
abbrev pub occurs : List Share → List ℕ → Bool
occurs shares name = list_any (λ s. bytes_eq s.name name) shares

-- they are the sums of the crates of these shares, and of all
pub record AreSumsOf (shares : List Share) (sums : CrateSums) : Type 0 where
  pub sums_are : (name : List ℕ) → sum_of shares name ≡ sum_at sums.crates name
  pub crates_are : (name : List ℕ) → occurs shares name ≡ is_some (get_by_text sums.crates name)
  pub total_is : total shares ≡ sums.total
  pub fits : sums.total < 2 ^ 64

-- the share was added at its crate's name
abbrev pub Adds : {Y : Type 0} → BTreeMap (String Y) ℕ → Share → BTreeMap (String Y) ℕ → Type 0
Adds old share new = (name : List ℕ) → get_by_text new name ≡ update bytes_eq (get_by_text old) share.name (Some (sum_at old share.name + share.size)) name
