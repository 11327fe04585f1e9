use Rattle.std.proofs.Common.{◌≡◌, ◌-◌, ◌+◌, ◌*◌, ℕ, true, false, ap, sym, ◌∙◌, arith}
use Rattle.std.specs.Option.{is_some}
use Rattle.binfarce_identity.specs.PeIdentity.{offset_from, offset_in}
use Rattle.binfarce_identity.specs.machine.Views.{place_view}
use Rattle.binfarce_identity.proofs.PeSteps.{no_section, this_section, later_section}
use Rattle.binfarce_identity.proofs.pe.offset_of.Goals as goal

pub returns-then-is_some : goal.returns-then-is_some
returns-then-is_some c =
    let place = place_view c.args.place in
    let found : is_some (offset_in c.args.headers.now place (c.loop-index.index * 40)) ≡ true = ap is_some (sym c.offset_in-found.ensures) ∙ sym c.is_some.ensures ∙ c.if-is_some.true in
    c.offset_in-found.ensures ∙ sym (this_section c.args.headers.now place (c.args.count - c.loop-index.index) c.loop-index.index (omega (arith, c.loop-index-test.true)) found) ∙ c.loop-index.invariant

pub loop-index-preserved : goal.loop-index-preserved
loop-index-preserved c =
    let place = place_view c.args.place in
    let none : is_some (offset_in c.args.headers.now place (c.loop-index.index * 40)) ≡ false = ap is_some (sym c.offset_in-found.ensures) ∙ sym c.is_some.ensures ∙ c.if-is_some.false in
    let left : c.args.count - (c.loop-index.index + 1) ≡ (c.args.count - c.loop-index.index) - 1 = omega arith in
    ap (λ (n : ℕ). offset_from c.args.headers.now place n (c.loop-index.index + 1)) left
    ∙ sym (later_section c.args.headers.now place (c.args.count - c.loop-index.index) c.loop-index.index (omega (arith, c.loop-index-test.true)) none) ∙ c.loop-index.invariant

pub returns : goal.returns
returns c = sym (no_section c.args.headers.now (place_view c.args.place) (c.args.count - c.loop-index.index) c.loop-index.index (omega (arith, c.loop-index-test.false))) ∙ c.loop-index.invariant
