-- What is shown of figures, by what their two numbers are.
use Rattle.std.specs.Prelude.{ℕ, Bool, true, List, filter}
use Rattle.binfarce_rows.specs.Columns.{difference}
use Rattle.binfarce_rows.specs.Json.{style_of}
use Rattle.binfarce_tools.specs.Report.{Share, AreCratesOf, sum_of}
use Rattle.binfarce_figures.specs.declared.figures.Columns.{Columns}
use Rattle.binfarce_figures.specs.declared.figures.Columns.TheVariants.{Sums, Changes}
use Rattle.binfarce_figures.specs.declared.figures.Layout.{Layout}
use Rattle.binfarce_figures.specs.declared.sums.Figures.{Figures}
use Rattle.binfarce_figures.specs.Changes.{change_columns, change_members, differ}
use Rattle.binfarce_figures.specs.Figures.{AreRowsOf, numbers_of, row_of, sum_columns, sum_members}

abbrev pub columns_text : Figures → Columns → (sum other : ℕ) → List ℕ
columns_text shown (Sums whole) sum other = sum_columns shown whole sum other
columns_text shown Changes sum other = change_columns shown sum other

abbrev pub members_text : Figures → Columns → (sum other : ℕ) → List ℕ
members_text shown (Sums whole) sum other = sum_members shown whole sum other
members_text shown Changes sum other = change_members shown sum other

-- a row, by how figures are shown
abbrev pub row_text : Layout → (name : List ℕ) → (sum other : ℕ) → List ℕ
row_text layout name sum other = row_of (style_of layout.form) (columns_text layout.figures.now layout.columns sum other) (members_text layout.figures.now layout.columns sum other) name

abbrev pub has_row : Columns → (sum other : ℕ) → Bool
has_row (Sums whole) sum other = true
has_row Changes sum other = differ sum other

abbrev pub rank : Columns → (sum other : ℕ) → ℕ
rank (Sums whole) sum other = sum
rank Changes sum other = difference sum other

-- text has the rows of the names of the first
abbrev pub AreRowsFor : Layout → (first second : List Share) → (text : List ℕ) → Type 0
AreRowsFor layout first second text =
    (names : List (List ℕ)) × AreCratesOf first names
    × AreRowsOf (row_text layout) layout.figures.now.first (rank layout.columns) (filter (λ n. has_row layout.columns n.1.0 n.1.1) (numbers_of (sum_of first) (sum_of second) names)) text
