-- What is said of limits on rows, by the numbers that are counted for these.
use Rattle.std.proofs.Common.{◌≡◌, ◌∙◌, ℕ, List, [], ◌∷◌, Option, Some, BTreeMap, String, Bor, ap}
use Rattle.std.specs.BTreeMap.{get_by_text}
use Rattle.std.specs.Global.{Global}
use Rattle.std.specs.Option.{option_map}
use Rattle.binfarce_bytes.specs.SectionEntries.{SelectedSymbols}
use Rattle.binfarce_figures.specs.Changes.{AreSizesFrom, sizes_at}
use Rattle.binfarce_figures.specs.declared.diff.Growth.{Growth}
use Rattle.binfarce_figures.specs.declared.key.Grouping.{Grouping}
use Rattle.binfarce_figures.specs.declared.sums.Numbers.{Numbers}
use Rattle.binfarce_limits.specs.Rows.{Found, NameLimit, findings}
use Rattle.binfarce_limits.specs.declared.excess.Counted.{Counted}
use Rattle.binfarce_limits.specs.declared.excess.Counted.TheVariants.{Size}
use Rattle.binfarce_sections.specs.ByName.{at_name, bytes_at}
use Rattle.binfarce_sections.specs.Changes.{parts_of}
use Rattle.binfarce_sections.specs.Sums.{FileSums}
use Rattle.binfarce_calls.specs.RowLimits.{AreRowsBetween, changed_in, no_file, or_total, sections_in, sized_in, total_of}

-- of the changes between two files
pub rows_between : (limits : List NameLimit) (grouping : Grouping) (selected : SelectedSymbols × SelectedSymbols) (numbers : BTreeMap (String Global) Numbers) (total : Growth) (found : List Found) → AreSizesFrom grouping (Some selected.0) selected.1 numbers → total ≡ total_of selected
    → found ≡ findings (λ name. or_total total name (option_map {U = ℕ × ℕ} (λ n. (n.sum, n.other)) (get_by_text numbers name))) limits → AreRowsBetween limits grouping selected found
rows_between [] grouping selected numbers total found sizes whole is = is
rows_between (limit ∷ others) grouping selected numbers total found (before, after, was, now, sizes) whole is =
    (before, after, was, now, is ∙ ap (λ (f : List ℕ → Option Counted). findings f (limit ∷ others)) (λ i name. or_total (whole i) name (sizes name i)))

-- of sections
pub sized : (limits : List NameLimit) (rows : BTreeMap (Bor (List ℕ)) (ℕ × ℕ)) (none sums : FileSums) (found : List Found) → none ≡ no_file → ((name : List ℕ) → at_name rows name ≡ bytes_at (parts_of none) (parts_of sums) name)
    → found ≡ findings (λ name. option_map (λ n. Size n.1) (at_name rows name)) limits → found ≡ findings (sized_in sums) limits
sized limits rows none sums found empty are is =
    is ∙ ap (λ (f : List ℕ → Option Counted). findings f limits) (λ i name. option_map (λ n. Size n.1) ((are name ∙ ap (λ (file : FileSums). bytes_at (parts_of file) (parts_of sums) name) empty) i))

pub compared : (limits : List NameLimit) (rows : BTreeMap (Bor (List ℕ)) (ℕ × ℕ)) (old new : FileSums) (total : Growth) (found : List Found) → total ≡ record { old = old.file_length; new = new.file_length } → ((name : List ℕ) → at_name rows name ≡ bytes_at (parts_of old) (parts_of new) name)
    → found ≡ findings (λ name. or_total total name (at_name rows name)) limits → found ≡ findings (sections_in old new) limits
compared limits rows old new total found whole are is =
    is ∙ ap (λ (f : List ℕ → Option Counted). findings f limits) (λ i name. or_total (whole i) name (are name i))
