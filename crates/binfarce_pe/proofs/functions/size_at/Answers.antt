use Rattle.std.proofs.Common.{◌≡◌, ◌∙◌, ◌∷◌, ap, ℕ}
use Rattle.binfarce_pe.specs.PeSymbols.{size_among}
use Rattle.binfarce_pe.proofs.Listing.{size_is}
use Rattle.binfarce_pe.proofs.functions.size_at.Goals as goal

pub returns-in-Text : goal.returns-in-Text
returns-in-Text c index addresses bound above =
    let text : c.args.bound ≡ c.in-Text.field-0.size = rw c.in-Text.is at bound in
    rw c.in-Text.is
    (c.size_up_to.ensures
    ∙ size_is c.args.bound c.args.address addresses c.args.above above
    ∙ ap (λ (n : ℕ). size_among (n ∷ addresses) c.args.address) text)
