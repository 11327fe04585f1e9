use Rattle.std.proofs.Common.{ℕ, List, sym, subst}
use Rattle.std.specs.Fmt.{HasWritten}
use Rattle.binfarce_jobs.specs.Hints.{hint_words}
use Rattle.binfarce_jobs.specs.declared.hint.Hint.{Hint}
use Rattle.binfarce_jobs.proofs.hint.HintDisplay.fmt.Goals as goal

pub returns-in-Excess-clause-writes : goal.returns-in-Excess-clause-writes
returns-in-Excess-clause-writes g c = λ plain ok.
    let Writes : List ℕ → Type 0 = λ text. HasWritten {W = g.row.W.Denot} g.W.Write.write_str_gives c.args.f.now text c.write-in-Excess.new.self in
    subst (λ (hint : Hint). Writes (hint_words hint)) (sym c.in-Excess.is) (c.write-in-Excess.ensures.writes plain ok)
