-- The text of how what the function symbols of two files add differs.
use Rattle.std.specs.Prelude.{ℕ, List}
use Rattle.binfarce_rows.specs.Json.{Style}
use Rattle.binfarce_tools.specs.Report.{Share}
use Rattle.binfarce_figures.specs.declared.sums.Figures.{Figures}
use Rattle.binfarce_figures.specs.Changes.{IsTextOfChanges}
use Rattle.binfarce_figures.specs.Claimed.{Claimed}
use Rattle.binfarce_figures.specs.machine.Shares.{AreSharesWith}

-- text is that of the changes between what two files' function symbols add
abbrev pub IsTextWith : Figures → Style → (old new : Claimed) → List ℕ → Type 0
IsTextWith shown style old new text =
    (before : List Share) × (after : List Share) × AreSharesWith shown.grouping old before × AreSharesWith shown.grouping new after × IsTextOfChanges shown style before after text
