use Rattle.std.proofs.Common.{◌∙◌, ◌<◌, ◌^◌, ◌++◌, ℕ, ap, subst, sym}
use Rattle.binfarce_figures.specs.Claimed.{Claimed}
use Rattle.binfarce_figures.specs.Claims.{sum_of_sizes}
use Rattle.binfarce_figures.proofs.Changed.{compared, of_changes, zeros}
use Rattle.binfarce_figures.proofs.Summed.{total_of}
use Rattle.binfarce_figures.proofs.diff.text_of.Goals as goal

pub rows-requires : goal.rows-requires
rows-requires c =
    let grouping = c.args.figures.now.grouping in
    let (a, a_with, a_adds) = c.in_ok-add_claims.ensures.adds in
    let (b, b_with, b_adds) = c.in_ok-add_claims-2.ensures.adds in
    let fits = λ (n : ℕ). n < 2 ^ 64 in
    let a_fits = subst fits (sym (total_of grouping c.args.old.now a a_with)) c.in_ok-add_claims.ensures.few.fits in
    let b_fits = subst fits (sym (total_of grouping c.args.new.now b b_with)) c.in_ok-add_claims-2.ensures.few.fits in
    (a ++ zeros b, zeros a ++ b, compared a b c.new-numbers.result c.add_claims.new.numbers c.add_claims-2.new.numbers c.new-numbers.ensures.empty a_adds b_adds a_fits b_fits)

pub returns : goal.returns
returns c =
    let grouping = c.args.figures.now.grouping in
    let (a, a_with, a_adds) = c.in_ok-add_claims.ensures.adds in
    let (b, b_with, b_adds) = c.in_ok-add_claims-2.ensures.adds in
    let fits = λ (n : ℕ). n < 2 ^ 64 in
    let sum = λ (v : Claimed). sum_of_sizes v.entries in
    let a_sum = sym (total_of grouping c.args.old.now a a_with) in
    let b_sum = sym (total_of grouping c.args.new.now b b_with) in
    let a_total = c.old.invariant.total_is ∙ ap sum c.old.view_is ∙ a_sum in
    let b_total = c.new.invariant.total_is ∙ ap sum c.new.view_is ∙ b_sum in
    let both = compared a b c.new-numbers.result c.add_claims.new.numbers c.add_claims-2.new.numbers c.new-numbers.ensures.empty a_adds b_adds (subst fits a_sum c.in_ok-add_claims.ensures.few.fits) (subst fits b_sum c.in_ok-add_claims-2.ensures.few.fits) in
    (a, b, a_with, b_with, of_changes c.args.alloc c.args.figures c.args.form a b c.old.inside.total c.new.inside.total _ _ a_total b_total (c.in_ok-text.ensures (a ++ zeros b) (zeros a ++ b) both) c.in_ok-push_row.ensures)
