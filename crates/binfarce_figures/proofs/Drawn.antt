-- The bars of the sums of keys.
use Rattle.std.proofs.Common.{◌≡◌, ◌∙◌, ℕ, List, [], ◌∷◌, BTreeMap, String, string_bytes, map, refl, sym}
use Rattle.std.specs.Global.{Global}
use Rattle.std.specs.BTreeMap.{IsOrdered}
use Rattle.std.specs.String.{string_cmp}
use Rattle.binfarce_chart.specs.Chart.{Row as Bar}
use Rattle.binfarce_figures.specs.Picture.{key_rows}
use Rattle.binfarce_tools.specs.Report.{Share, AreCratesOf}
use Rattle.binfarce_figures.specs.declared.sums.Numbers.{Numbers}
use Rattle.binfarce_figures.specs.machine.Counts.{AreNumbersOf}
use Rattle.binfarce_figures.proofs.Entries.{HaveNumbers, are_crates, have_numbers, texts_of}

-- a bar for each entry of a map
abbrev pub entry_bars : List (String Global × Numbers) → List Bar
entry_bars entries = map (λ (e : String Global × Numbers). record { name = string_bytes e.0; size = e.1.sum }) entries

bars_are : (first second : List Share) (entries : List (String Global × Numbers)) → HaveNumbers first second entries → entry_bars entries ≡ key_rows first (texts_of entries)
bars_are first second [] have = refl
bars_are first second (e ∷ entries) have = λ i. record { name = string_bytes e.0; size = sym have.0.0 i } ∷ bars_are first second entries have.1 i

-- the bars of all entries are those of the names
pub are_bars : (first second : List Share) (numbers : BTreeMap (String Global) Numbers) (bars : List Bar) → AreNumbersOf first second numbers → IsOrdered string_cmp numbers → bars ≡ entry_bars numbers.entries
    → (names : List (List ℕ)) × AreCratesOf first names × (bars ≡ key_rows first names)
are_bars first second numbers bars are ordered is =
    (texts_of numbers.entries, are_crates first second numbers are ordered, is ∙ bars_are first second numbers.entries (have_numbers first second numbers are ordered))
