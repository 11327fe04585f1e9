-- The picture of how many bytes each key takes.
use Rattle.std.specs.Prelude.{ℕ, List, Option, map}
use Rattle.binfarce_chart.specs.Chart.{Row}
use Rattle.binfarce_chart.specs.Svg.{IsChartOf}
use Rattle.binfarce_tools.specs.Report.{Share, AreCratesOf, sum_of}

-- a row for each of these keys, with the sum of its shares
abbrev pub key_rows : List Share → List (List ℕ) → List Row
key_rows shares names = map (λ name. record { name = name; size = sum_of shares name }) names

-- text is the picture with this title of the keys of these shares, of the size of their section, if one is selected, and of the first keys, if so many are asked for
abbrev pub IsPictureOfShares : List ℕ → List Share → (size first : Option ℕ) → List ℕ → Type 0
IsPictureOfShares title shares size first text = (names : List (List ℕ)) × AreCratesOf shares names × IsChartOf title (key_rows shares names) size first text
