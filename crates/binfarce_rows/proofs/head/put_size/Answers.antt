use Rattle.std.proofs.Common.{◌-◌, ◌+◌, ◌≡◌, ◌∙◌, ap, refl, length, take, arith}
use Rattle.std.proofs.Math.ListN.{length-set}
use Rattle.binfarce_rows.proofs.Heads.{size_init, decimal_onto_step, left_digits, size_put, blanks_left}
use Rattle.binfarce_rows.proofs.head.put_size.Goals as goal

pub loop-rest-init : goal.loop-rest-init
loop-rest-init c = record {
  within = omega arith;
  small = c.requires.short;
  whole = ap length c.requires.blanks;
  blanks = ap (take 9) c.requires.blanks;
  left = size_init c.args.size c.args.digits.now c.requires.short c.requires.blanks;
}

pub loop-rest-preserved : goal.loop-rest-preserved
loop-rest-preserved c =
    let v = c.loop-rest.invariant in
    let fits = left_digits c.loop-rest.at c.loop-rest.rest v.small c.loop-rest-test.true in
    let next : c.loop-rest.at - 1 + 1 ≡ c.loop-rest.at = omega arith in
    record {
      within = omega arith;
      small = rw next fits.1;
      whole = rw length-set v.whole;
      blanks = blanks_left (c.loop-rest.at - 1) c.loop-rest.at _ c.loop-rest.digits (omega arith) v.blanks;
      left = decimal_onto_step (c.loop-rest.at - 1) c.loop-rest.at c.loop-rest.rest _ c.loop-rest.digits (omega arith) (omega arith) c.loop-rest-test.true refl ∙ v.left;
    }

pub returns : goal.returns
returns c =
    let v = c.loop-rest.invariant in
    size_put c.loop-rest.at c.loop-rest.rest c.args.size _ c.loop-rest.digits v.whole v.within (omega arith) refl v.blanks v.left
