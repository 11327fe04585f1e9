-- What function symbols add to the sums of their keys.
use Rattle.std.specs.Prelude.{◌≡◌, ℕ, ◌<◌, ◌^◌, List, length, map}
use Rattle.std.specs.List.{AllZip}
use Rattle.binfarce.specs.SymbolViews.{section_function_view}
use Rattle.binfarce_bytes.specs.declared.functions.SectionFunction.{SectionFunction}
use Rattle.binfarce_tools.specs.Report.{Share}
use Rattle.binfarce_tools.specs.Tables.{section_names}
use Rattle.binfarce_figures.specs.declared.key.Grouping.{Grouping}
use Rattle.binfarce_figures.specs.Claimed.{Claimed}
use Rattle.binfarce_figures.specs.Claims.{sum_of_sizes}
use Rattle.binfarce_figures.specs.Figures.{IsShareOf}
use Rattle.binfarce_figures.specs.Keys.{section_keys}

-- a total is the sum of all sizes; it and the number of function symbols are below 2^64
pub record AddUp (functions : List SectionFunction) (total : ℕ) : Type 0 where
  pub total_is : total ≡ sum_of_sizes (map section_function_view functions)
  pub fits : total < 2 ^ 64
  pub few : length functions < 2 ^ 64

-- the sum of what claims add, and their number, are below 2^64
pub record AreFew (claims : Claimed) : Type 0 where
  pub fits : sum_of_sizes claims.entries < 2 ^ 64
  pub few : length claims.entries < 2 ^ 64

-- shares are those of claims
abbrev pub AreSharesWith : Grouping → Claimed → List Share → Type 0
AreSharesWith grouping claims shares = AllZip (IsShareOf grouping (section_keys (section_names claims.tables) claims.size)) claims.entries shares
