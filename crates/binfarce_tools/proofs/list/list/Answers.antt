use Rattle.std.proofs.Common.{sym, subst}
use Rattle.binfarce_tools.specs.Entries.{HoldsText}
use Rattle.binfarce_tools.specs.SectionAnswer.{IsListingOf, NeedsMemory, readers_answer}
use Rattle.binfarce_tools.specs.SelectedTexts.{IsListingOfSelected}
use Rattle.binfarce_tools.specs.Tables.{given_by}
use Rattle.binfarce_tools.proofs.Lines.{takes, takes_nothing}
use Rattle.binfarce_tools.proofs.SectionAnswers.{listing_of}
use Rattle.binfarce_tools.proofs.list.list.Goals as goal

pub returns-in_err-text-clause-takes : goal.returns-in_err-text-clause-takes
returns-in_err-text-clause-takes g c =
    takes_nothing IsListingOf (readers_answer c.args.file.now c.args.section.now) _ c.from_residual-in_err-text.result c.from_residual-in_err-text.ensures.1

pub returns-clause-takes : goal.returns-clause-takes
returns-clause-takes g c =
    let file = c.args.file.now in
    let selected = c.in_ok-selected.selected in
    takes IsListingOf HoldsText (NeedsMemory file) (readers_answer file c.args.section.now) selected c.as_bytes.result.now _ _ c.write_whole.result c.in_ok-selected.ensures
    (λ listed answer held. listing_of c.whole.result selected listed c.as_bytes.result.now held
    (subst (IsListingOfSelected (given_by c.whole.result selected)) (sym c.as_bytes.ensures.value) c.in_ok-text.ensures)) c.write_whole.ensures.takes
