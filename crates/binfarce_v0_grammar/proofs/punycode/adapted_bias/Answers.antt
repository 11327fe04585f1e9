use Rattle.std.proofs.Common.{ℕ, ◌+◌, ◌*◌, ◌/◌, ◌≤◌, arith, div-le_self}
use Rattle.binfarce_v0_grammar.proofs.PunycodeLemmas.{Scales-start, Scales-more, Scales-done}
use Rattle.binfarce_v0_grammar.proofs.punycode.adapted_bias.Goals as goal
use Rattle.binfarce_v0_grammar.proofs.punycode.adapted_bias.Goals.{then-first, else-first}

pub loop-delta-init : goal.loop-delta-init
loop-delta-init c =
    elim c.if-first.branch [
      | then-first w ↦ (Scales-start _ _ _ _ (rw w.if-first.true w.damped-is), spread _ _ (omega arith))
      | else-first w ↦ (Scales-start _ _ _ _ (rw w.if-first.false w.damped-is), spread _ _ (omega arith))
    ]
  where
    spread : (damped characters : ℕ) → 2 * damped ≤ 0xFFFF_FFFF → 0 + (damped + damped / characters) ≤ 0x1_0000_0000
    spread damped characters half = omega (arith, div-le_self damped characters)

pub loop-delta-preserved : goal.loop-delta-preserved
loop-delta-preserved c = (Scales-more c.loop-delta.invariant.0 c.loop-delta-test.true, omega arith)

pub returns : goal.returns
returns c = Scales-done c.loop-delta.invariant.0 c.loop-delta-test.false
