-- What is said of limits on rows.
use Rattle.std.proofs.Common.{◌≡◌, ◌∙◌, ◌||◌, ℕ, Bool, List, [], ◌∷◌, Option, Some, None, Result, Ok, Err, IfOk, BTreeMap, String, map, refl, ap}
use Rattle.std.specs.BTreeMap.{get_by_text}
use Rattle.std.specs.Global.{Global}
use Rattle.std.specs.List.{list_any}
use Rattle.std.specs.Option.{option_map}
use Rattle.binfarce.specs.SectionEntries.{SelectedSymbols}
use Rattle.binfarce_figures.specs.Changes.{AreSizesFrom, sizes_at}
use Rattle.binfarce_figures.specs.declared.key.Grouping.{Grouping}
use Rattle.binfarce_figures.specs.declared.sums.Numbers.{Numbers}
use Rattle.binfarce_limits.specs.Rows.{Found, NameLimit, finding_view, findings, is_found_above}
use Rattle.binfarce_limits.specs.declared.excess.Counted.{Counted}
use Rattle.binfarce_limits.specs.declared.excess.Counted.TheVariants.{Size}
use Rattle.binfarce_limits.specs.declared.rows.Finding.{Finding}
use Rattle.binfarce_tools.specs.Report.{Share}
use Rattle.binfarce_jobs.specs.Limit.{are_above}
use Rattle.binfarce_jobs.specs.Show.{AreRowsIn, counted_in}

pub any_above : (found : List Finding) → list_any (λ f. is_found_above (finding_view f)) found ≡ are_above (map finding_view found)
any_above [] = refl
any_above (f ∷ found) = ap (λ (b : Bool). is_found_above (finding_view f) || b) (any_above found)

-- so of what was judged
pub judged : {X E : Type 0} (view : X → List Found) (P Q : List Found → Type 0) (result : Result X E) → ((found : List Found) → P found → Q found) → IfOk result (λ x. P (view x)) → IfOk result (λ x. Q (view x))
judged view P Q (Ok x) more is = more (view x) is
judged view P Q (Err e) more is = is

size_of : (o : Option Numbers) → option_map {U = Counted} (λ n. Size n.other) o ≡ option_map {U = Counted} (λ n. Size n.1) (option_map {U = ℕ × ℕ} (λ n. (n.sum, n.other)) o)
size_of None = refl
size_of (Some n) = refl

-- of the rows of sums
pub rows_in : (limits : List NameLimit) (grouping : Grouping) (selected : SelectedSymbols) (numbers : BTreeMap (String Global) Numbers) (found : List Found) → AreSizesFrom grouping None selected numbers
    → found ≡ findings (λ name. option_map {U = Counted} (λ n. Size n.other) (get_by_text numbers name)) limits → AreRowsIn limits grouping selected found
rows_in [] grouping selected numbers found sizes is = is
rows_in (limit ∷ others) grouping selected numbers found (before, after, none, are, sizes) is =
    let counted : (name : List ℕ) → option_map {U = Counted} (λ n. Size n.other) (get_by_text numbers name) ≡ counted_in after name =
    λ name. size_of (get_by_text numbers name) ∙ ap (option_map {U = Counted} (λ n. Size n.1)) (sizes name ∙ ap (λ (b : List Share). sizes_at b after name) none) in
    (after, are, is ∙ ap (λ (f : List ℕ → Option Counted). findings f (limit ∷ others)) (λ i name. counted name i))
