-- What is taken of the text of how two files differ.
use Rattle.std.proofs.Common.{◌≡◌, ℕ, List, Option, Some, Result, Ok, Err, String, string_bytes, sym, ap, subst, ◌∙◌}
use Rattle.std.specs.Prelude.{IfOk}
use Rattle.std.specs.Global.{Global}
use Rattle.binfarce.specs.Refusal.{Refusal}
use Rattle.binfarce.specs.SectionEntries.{SelectedSymbols}
use Rattle.binfarce_tools.specs.Writing.{Outcome, Takes, WritesMade}
use Rattle.binfarce_figures.specs.declared.diff.Growth.{Growth}
use Rattle.binfarce_figures.specs.declared.sums.Figures.{Figures}
use Rattle.binfarce_rows.specs.Json.{Style}
use Rattle.binfarce_figures.specs.Claimed.{Claimed}
use Rattle.binfarce_figures.specs.Claims.{sum_of_sizes}
use Rattle.binfarce_figures.specs.Changes.{AreChangesBy, AreClaimsAsked, Asked, IsGrowthBy, answer_for, both}
use Rattle.binfarce_figures.specs.machine.Compared.{IsTextWith}
use Rattle.binfarce_tools.proofs.Reports.{takes}
use Rattle.binfarce_figures.proofs.Got.{sum_in}
use Rattle.binfarce_figures.proofs.Summed.{shares_in}

same_pair : (a b : SelectedSymbols × SelectedSymbols) → Path (Option (Result (SelectedSymbols × SelectedSymbols) Refusal)) (Some (Ok a)) (Some (Ok b)) → a ≡ b
same_pair a b e = cc

module _ (old new : Asked) (old_claims new_claims : Claimed) (was : AreClaimsAsked old old_claims) (is : AreClaimsAsked new new_claims) where
  pair_is : both (answer_for old) (answer_for new) ≡ Some (Ok (was.0, is.0))
  pair_is = ap (λ (a : Option (Result SelectedSymbols Refusal)). both a (answer_for new)) was.1 ∙ ap (λ (b : Option (Result SelectedSymbols Refusal)). both (Some (Ok was.0)) b) is.1

  -- what was taken
  pub compared : {E : Type 0} (shown : Figures) (style : Style) (made : Result (String Global) E) (before after : Option (List ℕ)) (o : Outcome) → IfOk made (λ t. IsTextWith shown style old_claims new_claims (string_bytes t)) → WritesMade made before after o
      → Takes (AreChangesBy shown style) (both (answer_for old) (answer_for new)) before after o
  compared shown style made before after o text wrote =
      takes (both (answer_for old) (answer_for new)) (was.0, is.0) pair_is (AreChangesBy shown style) made before after o (due made text) wrote
    where
      due : {E : Type 0} (made : Result (String Global) E) → IfOk made (λ t. IsTextWith shown style old_claims new_claims (string_bytes t)) → IfOk made (λ t. AreChangesBy shown style (was.0, is.0) (string_bytes t))
      due (Err e) is_text = is_text
      due (Ok t) (a, b, old_are, new_are, text) = (a, b, shares_in shown.grouping was.0 old_claims a was.2 old_are, shares_in shown.grouping is.0 new_claims b is.2 new_are, text)

  -- and the sums of all sizes
  pub growth_by : (growth : Growth) (listed : SelectedSymbols × SelectedSymbols) → both (answer_for old) (answer_for new) ≡ Some (Ok listed) → growth.old ≡ sum_of_sizes old_claims.entries → growth.new ≡ sum_of_sizes new_claims.entries
      → IsGrowthBy listed growth
  growth_by growth listed pair old_is new_is =
      subst (λ (l : SelectedSymbols × SelectedSymbols). IsGrowthBy l growth) (same_pair (was.0, is.0) listed (sym pair_is ∙ pair))
      (record { old_is = old_is ∙ sum_in was.0 old_claims was.2; new_is = new_is ∙ sum_in is.0 new_claims is.2 })
