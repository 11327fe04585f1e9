use Rattle.std.proofs.Common.{◌≡◌, ◌+◌, ◌-◌, ◌^◌, ◌<◌, List, ℕ, suc, [], ◌∷◌, length, set, drop, ap, subst, ◌∙◌, arith}
use Rattle.std.proofs.lemmas.List.{drop-set}
use Rattle.std.proofs.Math.ListN.{length-set, drop_of_length-le}
use Rattle.binfarce_v0_state.proofs.HexDigits.{hex_onto, hex_onto_step, left_digits, shown_is}
use Rattle.binfarce_v0_state.proofs.disambiguators.put_disambiguator.Goals as goal

bracket : (shown : List ℕ) → length shown ≡ 18 → drop 17 (set shown 17 93) ≡ 93 ∷ []
bracket shown len = drop-set shown 17 93 (omega arith) ∙ ap (λ l. 93 ∷ l) (drop_of_length-le shown {i = 17 + 1} (omega arith))

pub loop-rest-init : goal.loop-rest-init
loop-rest-init c = record {
  some = omega arith;
  within = omega arith;
  small = omega arith;
  whole = rw length-set c.requires;
  left = ap (hex_onto 16 c.args.n) (bracket c.args.shown.now c.requires);
}

pub loop-rest-preserved : goal.loop-rest-preserved
loop-rest-preserved c =
    let v = c.loop-rest.invariant in
    let k : ℕ = c.loop-rest.at - 1 in
    let is : c.loop-rest.at ≡ suc k = omega arith in
    let small : c.loop-rest.rest < 16 ^ suc k = subst (λ m. c.loop-rest.rest < 16 ^ m) is v.small in
    let fits = left_digits k c.loop-rest.rest small c.loop-rest-test.true in
    record {
      some = fits.0;
      within = omega arith;
      small = fits.1;
      whole = rw length-set v.whole;
      left = hex_onto_step k c.loop-rest.at c.loop-rest.rest c.hex_digit.result c.loop-rest.shown is (omega arith) c.loop-rest-test.true c.hex_digit.ensures ∙ v.left;
    }

pub returns-clause-text : goal.returns-clause-text
returns-clause-text c =
    let v = c.loop-rest.invariant in
    shown_is (c.loop-rest.at - 1) c.loop-rest.at c.loop-rest.rest c.args.n c.hex_digit-2.result c.loop-rest.shown (omega arith) v.within v.whole (omega arith) (omega arith) c.hex_digit-2.ensures v.left
