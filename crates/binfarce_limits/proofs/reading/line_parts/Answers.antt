use Rattle.std.proofs.Common.{◌≡◌, ◌∙◌, None, Some, Option, List, ℕ, Bor, ap, lit<, subst, sym}
use Rattle.binfarce_limits.specs.Reading.{or_else, split_last}
use Rattle.binfarce_limits.proofs.Splits.{split_is, views}
use Rattle.binfarce_limits.proofs.reading.line_parts.Goals as goal

pub returns-in-Some : goal.returns-in-Some
returns-in-Some c =
    let line = c.args.line.now in
    let first : views (Some c.in-Some.parts) ≡ split_last 9 line = split_is 9 line (Some c.in-Some.parts) (lit< tt) c.in-Some.ensures.cases in
    ap (λ (o : Option (List ℕ × List ℕ)). or_else o (split_last 32 line)) first

pub returns-in-None : goal.returns-in-None
returns-in-None c =
    let line = c.args.line.now in
    let first : None ≡ split_last 9 line = split_is 9 line None (lit< tt) c.in-None.ensures.cases in
    split_is 32 line c.rsplit_once-in-None.result (lit< tt) c.rsplit_once-in-None.ensures.cases ∙ ap (λ (o : Option (List ℕ × List ℕ)). or_else o (split_last 32 line)) first
