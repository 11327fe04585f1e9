-- The pieces of a report: a line for each crate, one for the whole, and a last line.
use Rattle.std.specs.Prelude.{◌≡◌, ℕ, List, [], ◌∷◌, ◌++◌, map, filter, All, Contains, unwrap_or, codes}
use Rattle.std.specs.Cmp.Lexicographic.{slice_cmp}
use Rattle.std.specs.Fmt.{decimal}
use Rattle.std.specs.List.{flat_map, sum_by}
use Rattle.std.specs.List.Sorted.{IsStrictlySortedBy}
use Rattle.std.specs.Ordering.{nat_cmp}
use Rattle.std.specs.Str.{bytes_eq}
use Rattle.binfarce_names.specs.Crates.{crate_of}
use Rattle.binfarce_names.specs.Name.{Name}
use Rattle.binfarce_names.specs.Named.{IsNamed}
use Rattle.binfarce.specs.Symbol.{Entry}
use Rattle.binfarce_rows.specs.Columns.{size_text}

-- the label for symbols without a crate
abbrev pub unknown_crate : List ℕ
unknown_crate = codes "[unknown]"

-- the crate that a name is counted for: its own, if it has one
abbrev pub crate_text : Name → List ℕ
crate_text name = unwrap_or (crate_of name) unknown_crate

-- the share of one entry: its crate's name, and its size
pub record Share : Type 0 where
  pub name : List ℕ
  pub size : ℕ

-- the share is what the entry adds, by the answer of its name
abbrev pub IsShareOf : Entry → Share → Type 0
IsShareOf entry share = (name : Name) × IsNamed entry.name name × (share ≡ record { name = crate_text name; size = entry.size })

abbrev pub total : List Share → ℕ
total shares = sum_by (λ s. s.size) shares

-- the sum over the shares of one crate
abbrev pub sum_of : List Share → List ℕ → ℕ
sum_of shares name = total (filter (λ s. bytes_eq s.name name) shares)

-- the names of the crates that occur, in the order of their bytes, each once
pub record AreCratesOf (shares : List Share) (names : List (List ℕ)) : Type 0 where
  pub rises : IsStrictlySortedBy (slice_cmp nat_cmp) names
  pub every : All (Contains names) (map (λ s. s.name) shares)
  pub occurs : All (Contains (map (λ s. s.name) shares)) names

-- `{sum:>10} {name}`, and a line feed
abbrev pub crate_line : List ℕ → ℕ → List ℕ
crate_line name sum = size_text sum ++ (codes " " ++ (name ++ 10 ∷ []))

-- `sum {total}`, and a line feed
abbrev pub total_line : ℕ → List ℕ
total_line total = codes "sum " ++ (decimal total ++ 10 ∷ [])

-- the lines of these crates, each with the sum of its shares
abbrev pub crate_lines : List Share → List (List ℕ) → List ℕ
crate_lines shares names = flat_map (λ name. crate_line name (sum_of shares name)) names

-- text is the report of these shares: the lines of the crates, then that of the sum of all sizes, and this last line
abbrev pub IsReportOfShares : List Share → (last : List ℕ) → List ℕ → Type 0
IsReportOfShares shares last text =
    (names : List (List ℕ)) × AreCratesOf shares names × (text ≡ crate_lines shares names ++ (total_line (total shares) ++ last))
