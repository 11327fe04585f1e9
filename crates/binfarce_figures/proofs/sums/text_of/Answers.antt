use Rattle.std.proofs.Common.{◌∙◌, ap, string_bytes, subst, sym}
use Rattle.binfarce_figures.specs.Claimed.{Claimed}
use Rattle.binfarce_figures.specs.Claims.{sum_of_sizes}
use Rattle.binfarce_rows.specs.Json.{style_of}
use Rattle.binfarce_figures.specs.Figures.{IsTextOfShares}
use Rattle.binfarce_figures.proofs.Counted.{ones}
use Rattle.binfarce_figures.proofs.Summed.{of_shares, total_of}
use Rattle.binfarce_figures.proofs.sums.text_of.Goals as goal

pub rows-requires : goal.rows-requires
rows-requires c = let (shares, with, are) = c.requires in (shares, ones shares, are)

pub returns : goal.returns
returns c =
    let (shares, with, are) = c.requires in
    let claims = c.args.claims.now in
    let total = total_of c.args.figures.now.grouping claims shares with ∙ sym (c.claims.invariant.total_is ∙ ap (λ (v : Claimed). sum_of_sizes v.entries) c.claims.view_is) in
    let text = of_shares c.args.alloc c.args.figures c.args.form c.claims.inside.size shares c.claims.inside.total c.unwrap_or.result _ _ total c.unwrap_or.ensures (c.in_ok-text.ensures shares (ones shares) are) c.in_ok-push_whole.ensures in
    (shares, with, subst (λ (v : Claimed). IsTextOfShares c.args.figures.now (style_of c.args.form) v.size shares (string_bytes c.push_whole.new.text)) c.claims.view_is text)
