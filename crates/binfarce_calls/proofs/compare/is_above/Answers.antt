use Rattle.std.proofs.Common.{◌∙◌, ◌++◌, ◌||◌, List, Option, ap₂, is_some, map, subst}
use Rattle.binfarce_limits.specs.Rows.{finding_view, finding_words}
use Rattle.binfarce_limits.specs.declared.rows.Finding.{Finding}
use Rattle.binfarce_jobs.specs.Files.{Grows, hinted}
use Rattle.binfarce_jobs.specs.Hints.{words_of}
use Rattle.binfarce_jobs.specs.Limit.{are_above}
use Rattle.binfarce_jobs.specs.declared.hint.Hint.{Hint}
use Rattle.binfarce_calls.proofs.Changes.{said_more}
use Rattle.binfarce_calls.proofs.compare.is_above.Goals as goal

pub returns-clause-above : goal.returns-clause-above
returns-clause-above g c = c.exceeds-is_above.ensures ∙ ap₂ (λ (hint : Option Hint) (rows : List Finding). is_some hint || are_above (map finding_view rows)) c.grown-excess.ensures c.deref.ensures.value

pub returns-clause-hints : goal.returns-clause-hints
returns-clause-hints g c =
    let path = c.args.pair.now.new.now in
    let rows = c.args.rows.items in
    let h0 = g.Y.System.hints c.args.system.now in
    let h1 = g.Y.System.hints c.give.new.system in
    let h2 = g.Y.System.hints c.give_rows.new.system in
    subst (λ (hint : Option Hint). Grows h0 h2 (hinted path (words_of hint ++ map finding_words rows))) c.grown-excess.ensures
    (said_more path h0 h1 h2 (words_of c.grown-excess.result) (map finding_words rows) c.give.ensures.hints c.give_rows.ensures.hints)
