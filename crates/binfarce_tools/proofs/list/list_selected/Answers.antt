use Rattle.std.proofs.Common.{sym, subst}
use Rattle.binfarce_tools.specs.Answer.{selected_answer, MemoryIn}
use Rattle.binfarce_tools.specs.Entries.{HoldsLeft}
use Rattle.binfarce_tools.specs.SelectedTexts.{IsListingOfSelected}
use Rattle.binfarce_tools.specs.Tables.{given_by}
use Rattle.binfarce_tools.proofs.Lines.{takes, takes_nothing}
use Rattle.binfarce_tools.proofs.TablesGive.{as_answered}
use Rattle.binfarce_tools.proofs.list.list_selected.Goals as goal

pub returns-in_err-text-clause-takes : goal.returns-in_err-text-clause-takes
returns-in_err-text-clause-takes g c = λ which file section are gets. takes_nothing IsListingOfSelected (selected_answer which section file) _ c.from_residual.result c.from_residual.ensures.1

pub returns-clause-takes : goal.returns-clause-takes
returns-clause-takes g c = λ which file section are gets.
    takes IsListingOfSelected HoldsLeft (MemoryIn file section) (selected_answer which section file) c.args.selected c.as_bytes.result.now _ _ c.write_whole.result
    gets
    (λ seen answer held. as_answered which file section (λ s. IsListingOfSelected s c.as_bytes.result.now) c.args.tables.now c.args.selected seen are answer held (λ entries size names other shares versions is. is)
    (subst (IsListingOfSelected (given_by c.args.tables.now c.args.selected)) (sym c.as_bytes.ensures.value) c.in_ok-text.ensures)) c.write_whole.ensures.takes
