use Rattle.std.proofs.Common.{◌<◌, ◌^◌, ℕ, Option, Bor, ap, subst, sym}
use Rattle.std.specs.Option.{option_map}
use Rattle.binfarce_figures.specs.Changes.{AreClaimsIf}
use Rattle.binfarce_figures.specs.Claimed.{Claimed}
use Rattle.binfarce_figures.proofs.Sized.{sizes_alone, sizes_between}
use Rattle.binfarce_figures.proofs.Summed.{total_of}
use Rattle.binfarce_figures.proofs.diff.sizes_of.Goals as goal

pub returns-in_default : goal.returns-in_default
returns-in_default c = λ was is before after.
    let grouping = c.args.grouping in
    let (b, b_with, b_adds) = c.in_ok-add_claims.ensures.adds in
    let fits = λ (n : ℕ). n < 2 ^ 64 in
    let b_fits = subst fits (sym (total_of grouping c.args.new.now b b_with)) c.in_ok-add_claims.ensures.few.fits in
    sizes_alone grouping was is c.args.new.now c.new-numbers.result c.add_claims.new.numbers b (subst (λ (o : Option (Bor Claimed)). AreClaimsIf was (option_map (λ claims. claims.now) o)) c.in_default.is before) after b_with c.new-numbers.ensures.empty b_adds b_fits

pub returns : goal.returns
returns c = λ was is before after.
    let grouping = c.args.grouping in
    let (a, a_with, a_adds) = c.in_ok-add_claims-2.ensures.adds in
    let (b, b_with, b_adds) = c.in_ok-add_claims-3.ensures.adds in
    let fits = λ (n : ℕ). n < 2 ^ 64 in
    let a_fits = subst fits (sym (total_of grouping c.in-Some.old.now a a_with)) c.in_ok-add_claims-2.ensures.few.fits in
    let b_fits = subst fits (sym (total_of grouping c.args.new.now b b_with)) c.in_ok-add_claims-3.ensures.few.fits in
    sizes_between grouping was is c.in-Some.old.now c.args.new.now c.new-numbers.result c.add_claims-2.new.numbers c.add_claims-3.new.numbers a b
    (subst (λ (o : Option (Bor Claimed)). AreClaimsIf was (option_map (λ claims. claims.now) o)) c.in-Some.is before) after a_with b_with c.new-numbers.ensures.empty a_adds b_adds a_fits b_fits
