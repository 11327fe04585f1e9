use Rattle.std.proofs.Common.{◌-◌, ◌+◌, ◌/◌, ◌≡◌, ◌∙◌, ap, sym, drop, set, arith}
use Rattle.std.proofs.Math.ListN.{length-set}
use Rattle.binfarce_rows.proofs.Heads.{hex_onto, hex_onto_address, hex_onto_ends, hex_onto_step}
use Rattle.binfarce_addresses.proofs.digits.digits_of.Goals as goal

pub loop-k-preserved : goal.loop-k-preserved
loop-k-preserved c =
    let v = c.loop-k.invariant in
    let k = c.loop-k.k in
    let here : 16 - (k + 1) ≡ 15 - k = omega arith in
    record {
      whole = rw length-set v.whole;
      left = ap (λ m. hex_onto m (c.loop-k.rest / 16) (drop m (set c.loop-k.shown (15 - k) c.hex_digit.result))) here
          ∙ hex_onto_step (15 - k) (16 - k) c.loop-k.rest c.hex_digit.result c.loop-k.shown (omega arith) (omega (arith, v.whole)) c.hex_digit.ensures ∙ v.left;
    }

pub returns : goal.returns
returns c =
    sym (hex_onto_ends (16 - c.loop-k.k) c.loop-k.rest c.loop-k.shown (omega (arith, c.loop-k-test.false))) ∙ c.loop-k.invariant.left
    ∙ hex_onto_address c.args.number (omega (arith, c.ranges.number.fits))
