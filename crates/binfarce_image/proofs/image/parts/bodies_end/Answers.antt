use Rattle.std.proofs.Common.{◌≡◌, ℕ, ◌+◌, ◌-◌, ◌^◌, min, [], ◌∷◌, drop, sym, ap, ◌∙◌, arith}
use Rattle.std.proofs.lemmas.List.{drop_more, drop_all}
use Rattle.binfarce_image.specs.Image.{bodies_end, body_length}
use Rattle.binfarce_image.specs.machine.Views.{class_view}
use Rattle.binfarce_image.proofs.Lengths.{bodies_end_saturated}
use Rattle.binfarce_image.proofs.image.parts.bodies_end.Goals as goal

pub loop-part-preserved : goal.loop-part-preserved
loop-part-preserved c =
    let class = class_view c.args.class in
    let parts = c.args.parts.now in
    let i = c.loop-part.part-index in
    let most : ℕ = 2 ^ 64 - 1 in
    let part = c.part-item.result in
    let rest = drop (i + 1) parts in
    let more : drop i parts ≡ part ∷ rest = drop_more parts i part c.loop-part-test.true ∙ ap (λ p. p ∷ rest) (sym c.part-item.is) in
    let end : c.saturating_add-end.result ≡ min (c.loop-part.end + min (body_length class part) most) most = c.saturating_add-end.ensures ∙ ap (λ n. min (c.loop-part.end + n) most) c.body_length.ensures in
    record {
      fits = omega arith;
      end = ap (λ n. min (bodies_end class n rest) most) end ∙ bodies_end_saturated class c.loop-part.end most part rest ∙ sym (ap (λ ps. min (bodies_end class c.loop-part.end ps) most) more) ∙ c.loop-part.invariant.end;
    }

pub returns : goal.returns
returns c =
    let class = class_view c.args.class in
    let none : drop c.loop-part.part-index c.args.parts.now ≡ [] = drop_all c.loop-part.part-index c.args.parts.now c.loop-part-test.false in
    let fits : c.loop-part.end ≡ min c.loop-part.end 18446744073709551615 = omega arith in
    fits ∙ sym (ap (λ ps. min (bodies_end class c.loop-part.end ps) 18446744073709551615) none) ∙ c.loop-part.invariant.end
