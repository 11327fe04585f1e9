use Rattle.std.proofs.Common.{◌≡◌, ◌∙◌, take, arith}
use Rattle.binfarce_text.specs.Streams.{Writes}
use Rattle.binfarce_text.proofs.Passing.{broke_off, kept_passed, more_passed}
use Rattle.binfarce_text.proofs.streams.pass_all.Goals.{in-Ok+in_ok-pass_part-in-Ok, in-Err+else-ne}
use Rattle.binfarce_text.proofs.streams.pass_all.Goals as goal

pub returns-in_err-pass_part-in-Ok-clause-passes : goal.returns-in_err-pass_part-in-Ok-clause-passes
returns-in_err-pass_part-in-Ok-clause-passes g c =
    broke_off g.P.Pass.Holds g.P.Pass.MayBreakOff c.args.pass.now c.loop.pass c.pass_part.new.pass (take c.in-Ok.n c.read.new.buf) _ _ _ _ _ _ c.in_err-pass_part-in-Ok.field-0.0 c.from_residual.result
    c.loop.invariant.passed c.in-Ok.ensures.bytes.0 c.in_err-pass_part-in-Ok.ensures.passes c.from_residual.ensures.1

pub loop-preserved : goal.loop-preserved
loop-preserved g c =
    let given = g.R.Read.remaining c.args.input.now in
    let left = g.R.Read.remaining c.loop.input in
    let rest = g.R.Read.remaining c.read.new.self in
    let old = g.P.Pass.taken c.args.output.now in
    let now = g.P.Pass.taken c.loop.output in
    let Passed : (P : _) (O : _) → Type 0 = λ p o. Writes (g.P.Pass.Holds c.args.pass.now p) given rest old (g.P.Pass.taken o) × (g.P.Pass.has_failed o ≡ g.P.Pass.has_failed c.args.output.now) in
    let both : Passed c.match-read.pass c.match-read.output = elim c.match-read.branch [
      | in-Ok+in_ok-pass_part-in-Ok w ↦ rw (w.pass-is, w.output-is) (
        more_passed g.P.Pass.Holds g.P.Pass.MayBreakOff c.args.pass.now c.loop.pass w.pass_part.new.pass (take w.in-Ok.n c.read.new.buf) given left rest old now (g.P.Pass.taken w.pass_part.new.output)
            c.loop.invariant.passed w.in-Ok.ensures.bytes.0 w.in_ok-pass_part-in-Ok.ensures.passes,
        w.in_ok-pass_part-in-Ok.ensures.fails ∙ c.loop.invariant.unfailed,
      )
      | in-Err+else-ne w ↦ rw (w.pass-is, w.output-is) (kept_passed (g.P.Pass.Holds c.args.pass.now c.loop.pass) given left rest old now c.loop.invariant.passed w.in-Err.ensures.bytes, c.loop.invariant.unfailed)
    ] in
    record { room = omega (arith, c.read.auto.buf, c.loop.invariant.room); passed = both.0; unfailed = both.1 }
