use Rattle.std.proofs.Common.{◌≡◌, ◌∙◌, ℕ, nat_eq, ap, arith, length}
use Rattle.std.proofs.lemmas.List.{length-map}
use Rattle.binfarce.specs.SymbolViews.{section_function_view}
use Rattle.binfarce_figures.specs.Claimed.{Claimed}
use Rattle.binfarce_figures.proofs.Got.{claims_for, count_in}
use Rattle.binfarce_figures.proofs.claims.Claims.is_empty.Goals as goal

pub returns-clause-file : goal.returns-clause-file
returns-clause-file c = λ which file section selected got answer.
    let claims = c.args.self.now in
    let list = c.self.inside.list in
    let count : list.len ≡ length claims.entries = omega (arith, list.ok.0, length-map list.items section_function_view, ap (λ (v : Claimed). length v.entries) c.self.view_is) in
    c.is_empty.ensures ∙ ap (λ (n : ℕ). nat_eq n 0) (count ∙ count_in selected claims (claims_for which file section claims selected got answer))
