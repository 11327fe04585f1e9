-- What is said of limits on rows: of two files, and of sections.
use Rattle.std.specs.Prelude.{◌≡◌, ℕ, List, [], ◌∷◌, codes, Option, Some, if◌then◌else◌}
use Rattle.std.specs.Option.{option_map}
use Rattle.std.specs.Str.{bytes_eq}
use Rattle.binfarce_bytes.specs.SectionEntries.{SelectedSymbols}
use Rattle.binfarce_figures.specs.Changes.{sizes_at}
use Rattle.binfarce_figures.specs.Claims.{bytes_of}
use Rattle.binfarce_figures.specs.Figures.{AreSharesIn}
use Rattle.binfarce_figures.specs.declared.diff.Growth as growths
use Rattle.binfarce_figures.specs.declared.key.Grouping.{Grouping}
use Rattle.binfarce_limits.specs.Rows.{Found, NameLimit, findings}
use Rattle.binfarce_limits.specs.declared.excess.Counted.{Counted}
use Rattle.binfarce_limits.specs.declared.excess.Counted.TheVariants.{Size, Growth}
use Rattle.binfarce_sections.specs.ByName.{bytes_at}
use Rattle.binfarce_sections.specs.Changes.{parts_of}
use Rattle.binfarce_sections.specs.Sums.{FileSums}
use Rattle.binfarce_tools.specs.Report.{Share}

-- what is counted for the row of a name in two files, if there is one: `[total]` is that of the sums of all
abbrev pub or_total : growths.Growth → (name : List ℕ) → (numbers : Option (ℕ × ℕ)) → Option Counted
or_total total name numbers = if bytes_eq name (codes "[total]") then Some (Growth total.old total.new) else option_map (λ n. Growth n.0 n.1) numbers

-- the sums of all sizes of two files' answers
abbrev pub total_of : SelectedSymbols × SelectedSymbols → growths.Growth
total_of selected = record { old = bytes_of selected.0.entries; new = bytes_of selected.1.entries }

abbrev pub changed_in : SelectedSymbols × SelectedSymbols → (before after : List Share) → (name : List ℕ) → Option Counted
changed_in selected before after name = or_total (total_of selected) name (sizes_at before after name)

-- this is said of limits on the rows of the changes between two files' answers; nothing, without limits
abbrev pub AreRowsBetween : List NameLimit → Grouping → SelectedSymbols × SelectedSymbols → List Found → Type 0
AreRowsBetween [] grouping selected found = found ≡ []
AreRowsBetween (limit ∷ others) grouping selected found =
    (before after : List Share) × AreSharesIn grouping selected.0 before × AreSharesIn grouping selected.1 after × (found ≡ findings (changed_in selected before after) (limit ∷ others))

-- an empty file
abbrev pub no_file : FileSums
no_file = record { file_length = 0; shares = [] }

-- how many bytes of a file count for a name of its sections
abbrev pub sized_in : FileSums → (name : List ℕ) → Option Counted
sized_in sums name = option_map (λ n. Size n.1) (bytes_at (parts_of no_file) (parts_of sums) name)

-- and how many of two files
abbrev pub sections_in : (old new : FileSums) → (name : List ℕ) → Option Counted
sections_in old new name = or_total (record { old = old.file_length; new = new.file_length }) name (bytes_at (parts_of old) (parts_of new) name)
