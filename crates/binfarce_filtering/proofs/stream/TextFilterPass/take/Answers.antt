use Rattle.std.proofs.Common.{◌≡◌, ◌++◌, ℕ, List}
use Rattle.binfarce_filtering.specs.FilterViews.{Goes, is_full}
use Rattle.binfarce_filtering.proofs.Parts.{on_ok}
use Rattle.binfarce_filtering.proofs.Streams.{held_begins}
use Rattle.binfarce_filtering.proofs.stream.TextFilterPass.take.Goals as goal

pub returns-clause-makes : goal.returns-clause-makes
returns-clause-makes g c =
    on_ok ((more : List ℕ) × Goes c.args.self.now c.push.new.self c.args.part.now more × (c.push.new.out.items ≡ c.args.out.now.items ++ more)) _ c.push.result
    (λ is. (is.0, (λ first. is.1 (is_full first)), is.2)) c.push.ensures

pub returns-clause-breaks_off : goal.returns-clause-breaks_off
returns-clause-breaks_off g c = λ first now text part made others holds. held_begins (is_full first) now text part made others holds
