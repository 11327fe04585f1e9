use Rattle.std.proofs.Common.{◌≡◌, ◌∙◌, ap, arith, length}
use Rattle.std.proofs.lemmas.List.{length-map}
use Rattle.binfarce.specs.SymbolViews.{section_function_view}
use Rattle.binfarce_figures.specs.Claimed.{Claimed}
use Rattle.binfarce_figures.proofs.Got.{claims_for, count_in}
use Rattle.binfarce_figures.proofs.claims.Claims.len.Goals as goal

pub returns-clause-file : goal.returns-clause-file
returns-clause-file c = λ which file section selected got answer.
    let claims = c.args.self.now in
    let list = c.self.inside.list in
    let count : c.len.result ≡ length claims.entries = omega (arith, c.len.ensures, list.ok.0, length-map list.items section_function_view, ap (λ (v : Claimed). length v.entries) c.self.view_is) in
    count ∙ count_in selected claims (claims_for which file section claims selected got answer)
