use Rattle.std.proofs.Common.{◌≡◌, ◌++◌, ℕ, List, false}
use Rattle.std.proofs.lemmas.Result.{on_ok_weaker}
use Rattle.binfarce_logs.specs.machine.Annotating.{Annotates}
use Rattle.binfarce_logs.proofs.Annotating.{breaks_off, goes_on}
use Rattle.binfarce_logs.proofs.annotate.AnnotatingPass.take.Goals as goal

pub returns-clause-makes : goal.returns-clause-makes
returns-clause-makes g c =
    let old = c.args.self.now in
    let new = c.push.new.self in
    let part = c.args.part.now in
    on_ok_weaker {P = (more : List ℕ) × Annotates old new false part more × (c.push.new.out.items ≡ c.args.out.now.items ++ more)} c.push.result
    (λ is. (is.0, (λ first. goes_on first old new part is.0 is.1), is.2)) c.push.ensures.shows

pub returns-clause-breaks_off : goal.returns-clause-breaks_off
returns-clause-breaks_off g c = λ first now text part made others holds. breaks_off first now text part made others holds
