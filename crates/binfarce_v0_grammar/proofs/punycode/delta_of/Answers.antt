use Rattle.std.proofs.Common.{◌≡◌, None, sym, arith, rules}
use Rattle.std.proofs.lemmas.List.{take_rest}
use Rattle.binfarce_v0_grammar.specs.Punycode.{integer}
use Rattle.binfarce_v0_grammar.proofs.PunycodeLemmas.{Reads-start, Reads-no_digit, Reads-end, Reads-last, Reads-more, Reads-past}
use Rattle.binfarce_v0_grammar.proofs.punycode.delta_of.Goals as goal

pub loop-at-init : goal.loop-at-init
loop-at-init c = Reads-start c.args.bias c.args.code.now

pub returns-in_err-digit-clause-none : goal.returns-in_err-digit-clause-none
returns-in_err-digit-clause-none c =
    let none : integer c.args.bias 0 c.args.code.now ≡ None =
    Reads-no_digit c.loop-at.invariant c.loop-at-test.true (sym c.in_err-digit.ensures.value) in
    rw none (search rules)

pub returns-then-delta-gt-MAX_DELTA-clause-none : goal.returns-then-delta-gt-MAX_DELTA-clause-none
returns-then-delta-gt-MAX_DELTA-clause-none c =
    Reads-past c.loop-at.invariant _ c.loop-at-test.true (sym c.in_ok-digit.ensures.value) c.if-delta-gt-MAX_DELTA.true

pub returns-then-digit-threshold-clause-some : goal.returns-then-digit-threshold-clause-some
returns-then-digit-threshold-clause-some c =
    rw take_rest
    (Reads-last c.loop-at.invariant _ c.loop-at-test.true (sym c.in_ok-digit.ensures.value) (omega (arith, c.loop-at.invariant.steps)))

pub loop-at-preserved : goal.loop-at-preserved
loop-at-preserved c =
    Reads-more c.loop-at.invariant _ _ c.loop-at-test.true (sym c.in_ok-digit.ensures.value)
    (omega (arith, c.loop-at.invariant.steps)) c.if-digit-threshold.false c.if-delta-gt-MAX_DELTA.false

pub returns-clause-none : goal.returns-clause-none
returns-clause-none c = rw (Reads-end c.loop-at.invariant c.loop-at-test.false) tt
