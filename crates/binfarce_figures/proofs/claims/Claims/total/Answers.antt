use Rattle.std.proofs.Common.{◌∙◌, ap}
use Rattle.binfarce_figures.specs.Claimed.{Claimed}
use Rattle.binfarce_figures.specs.Claims.{sum_of_sizes}
use Rattle.binfarce_figures.proofs.Got.{claims_for, sum_in}
use Rattle.binfarce_figures.proofs.claims.Claims.total.Goals as goal

pub returns-clause-file : goal.returns-clause-file
returns-clause-file c = λ which file section selected got answer.
    c.self.invariant.total_is ∙ ap (λ (v : Claimed). sum_of_sizes v.entries) c.self.view_is ∙ sum_in selected c.args.self.now (claims_for which file section c.args.self.now selected got answer)
