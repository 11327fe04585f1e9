-- The text of how the sums of two files differ.
use Rattle.std.specs.Prelude.{◌≡◌, ℕ, Bool, not, List, [], ◌++◌, filter, Option, Some, None, Result, Ok, Err, codes, nat_eq, String, if◌then◌else◌}
use Rattle.std.specs.BTreeMap.{BTreeMap, get_by_text}
use Rattle.std.specs.Global.{Global}
use Rattle.std.specs.Option.{option_map}
use Rattle.binfarce.specs.Refusal.{Refusal}
use Rattle.binfarce.specs.SectionEntries.{SelectedSymbols}
use Rattle.binfarce.specs.declared.SymbolTable.{SymbolTable}
use Rattle.binfarce_rows.specs.Json.{Style, number_member}
use Rattle.binfarce_rows.specs.Columns.{change_column, difference, growth_column, growth_member, signed_member, size_column}
use Rattle.binfarce_tools.specs.Report.{Share, AreCratesOf, sum_of, total}
use Rattle.binfarce_tools.specs.Answer.{selected_answer}
use Rattle.binfarce_tools.specs.Sums.{occurs}
use Rattle.binfarce_figures.specs.declared.key.Grouping.{Grouping}
use Rattle.binfarce_figures.specs.declared.sums.Numbers.{Numbers}
use Rattle.binfarce_figures.specs.declared.diff.Growth.{Growth}
use Rattle.binfarce_figures.specs.declared.sums.Figures.{Figures}
use Rattle.binfarce_figures.specs.Claimed.{AreClaimsFor, AreClaimsIn, Claimed}
use Rattle.binfarce_figures.specs.Claims.{IsSumOf}
use Rattle.binfarce_figures.specs.Figures.{AreRowsOf, AreSharesIn, numbers_of, row_of}

-- the sums of a key differ
abbrev pub differ : (old new : ℕ) → Bool
differ old new = not (nat_eq old new)

-- `{old:>10} {new:>10} {change:>11} {percent:>10} `
abbrev pub change_columns : Figures → (old new : ℕ) → List ℕ
change_columns shown old new = size_column old ++ (size_column new ++ (change_column old new ++ growth_column shown.has_percent old new))

-- the old sum, the new one and their difference
abbrev pub change_members : Figures → (old new : ℕ) → List ℕ
change_members shown old new =
    number_member (codes "old") old ++ (number_member (codes "new") new ++ (signed_member (codes "change") old new ++ growth_member shown.has_percent old new))

-- the row of a change; the file of an object is the new one
abbrev pub change_row : Figures → Style → (name : List ℕ) → (old new : ℕ) → List ℕ
change_row shown style name old new = row_of style (change_columns shown old new) (change_members shown old new) name

-- text is that of the changes from shares to others: a row for each key of either file whose sums differ, the greatest difference first, and that of the sums of all sizes
abbrev pub IsTextOfChanges : Figures → Style → (old new : List Share) → List ℕ → Type 0
IsTextOfChanges shown style old new text =
    (names : List (List ℕ)) × (rows : List ℕ) × AreCratesOf (old ++ new) names
    × AreRowsOf (change_row shown style) shown.first difference (filter (λ n. differ n.1.0 n.1.1) (numbers_of (sum_of old) (sum_of new) names)) rows
    × (text ≡ rows ++ change_row shown style (codes "[total]") (total old) (total new))

-- whose function symbols are asked for: those of a selection of a file, by a symbol table
pub record Asked : Type 0 where
  pub which : SymbolTable
  pub file : List ℕ
  pub section : Option (List ℕ)

-- claims are those of what is asked for
abbrev pub AreClaimsAsked : Asked → Claimed → Type 0
AreClaimsAsked asked claims = AreClaimsIn asked.which asked.file asked.section claims

abbrev pub answer_for : Asked → Option (Result SelectedSymbols Refusal)
answer_for asked = selected_answer asked.which asked.section asked.file

-- what two files answer: for a refusal, or an unknown format, the first one's
abbrev pub both : (old new : Option (Result SelectedSymbols Refusal)) → Option (Result (SelectedSymbols × SelectedSymbols) Refusal)
both (Some (Ok old)) (Some (Ok new)) = Some (Ok (old, new))
both (Some (Ok old)) (Some (Err refusal)) = Some (Err refusal)
both (Some (Ok old)) None = None
both (Some (Err refusal)) new = Some (Err refusal)
both None new = None

-- text is that of the changes between two files' answers
abbrev pub AreChangesBy : Figures → Style → SelectedSymbols × SelectedSymbols → List ℕ → Type 0
AreChangesBy shown style selected text =
    (before : List Share) × (after : List Share) × AreSharesIn shown.grouping selected.0 before × AreSharesIn shown.grouping selected.1 after
    × IsTextOfChanges shown style before after text

-- what is summed for a key in two files, if one of the shares of either has it
abbrev pub sizes_at : (old new : List Share) → (name : List ℕ) → Option (ℕ × ℕ)
sizes_at old new name = if occurs (old ++ new) name then Some (sum_of old name, sum_of new name) else None

-- shares are those of a file's answer; none, without a file
abbrev pub AreSharesIf : Grouping → Option SelectedSymbols → List Share → Type 0
AreSharesIf grouping (Some selected) shares = AreSharesIn grouping selected shares
AreSharesIf grouping None shares = shares ≡ []

-- claims are those of a file's answer, if there is a file
abbrev pub AreClaimsIf : Option SelectedSymbols → Option Claimed → Type 0
AreClaimsIf (Some selected) (Some claims) = AreClaimsFor selected claims
AreClaimsIf None None = Unit {0}
AreClaimsIf selected claims = ⊥

-- numbers have the sums of the answers of an old file, if there is one, and of a new one, by the keys of both
abbrev pub AreSizesFrom : Grouping → (old : Option SelectedSymbols) → (new : SelectedSymbols) → BTreeMap (String Global) Numbers → Type 0
AreSizesFrom grouping old new numbers =
    (before after : List Share) × AreSharesIf grouping old before × AreSharesIn grouping new after
    × ((name : List ℕ) → option_map {U = ℕ × ℕ} (λ n. (n.sum, n.other)) (get_by_text numbers name) ≡ sizes_at before after name)

-- growth is that between two files' answers
pub record IsGrowthBy (selected : SelectedSymbols × SelectedSymbols) (growth : Growth) : Type 0 where
  pub old_is : IsSumOf selected.0 growth.old
  pub new_is : IsSumOf selected.1 growth.new
