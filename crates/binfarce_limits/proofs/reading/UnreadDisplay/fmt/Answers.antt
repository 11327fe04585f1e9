use Rattle.std.proofs.Common.{ℕ, List, sym, subst}
use Rattle.std.specs.Fmt.{HasWritten}
use Rattle.binfarce_limits.specs.ReadingViews.{unread_words}
use Rattle.binfarce_limits.specs.declared.reading.Unread.{Unread}
use Rattle.binfarce_limits.proofs.reading.UnreadDisplay.fmt.Goals as goal

pub returns-in-BadLimit-clause-writes : goal.returns-in-BadLimit-clause-writes
returns-in-BadLimit-clause-writes g c = λ plain ok.
    let Writes : List ℕ → Type 0 = λ text. HasWritten {W = g.row.W.Denot} g.W.Write.write_str_gives c.args.f.now text c.write-in-BadLimit.new.self in
    subst (λ (u : Unread). Writes (unread_words u)) (sym c.in-BadLimit.is) (c.write-in-BadLimit.ensures.writes plain ok)

pub returns-in-OnlyGrowth-clause-writes : goal.returns-in-OnlyGrowth-clause-writes
returns-in-OnlyGrowth-clause-writes g c = λ plain ok.
    let Writes : List ℕ → Type 0 = λ text. HasWritten {W = g.row.W.Denot} g.W.Write.write_str_gives c.args.f.now text c.write-in-OnlyGrowth.new.self in
    subst (λ (u : Unread). Writes (unread_words u)) (sym c.in-OnlyGrowth.is) (c.write-in-OnlyGrowth.ensures.writes plain ok)
