use Rattle.std.proofs.Common.{◌≡◌, ◌<◌, ◌≤◌, ◌+◌, ◌*◌, ◌^◌, ℕ, true, rules, refl, get_or, ◌∙◌, arith}
use Rattle.std.proofs.Math.Nat.{pow-le-pow_right}
use Rattle.std.proofs.lemmas.Grind.{pow_more}
use Rattle.std.proofs.lemmas.Bool.Decides.{nat_tests}
use Rattle.std.proofs.lemmas.Int.Digits.{digits_value_more}
use Rattle.std.proofs.lemmas.List.Folds.{list_all_more}
use Rattle.std.specs.Char.{digit_value, is_ascii_digit}
use Rattle.binfarce_pe.proofs.names.decimal.Goals as goal

is_digit : (byte : ℕ) → digit_value byte < 10 → is_ascii_digit byte ≡ true
is_digit byte lt = grind (arith, nat_tests)

-- before the 8th digit there is room for it
room : (number i : ℕ) → number < 10 ^ i → i < 7 → 10 * number + 9 < 2 ^ 32
room number i below lt =
    let le : 10 ^ i ≤ 10 ^ 6 = pow-le-pow_right {n = 10} (omega arith) {i = i} {j = 6} (omega arith) in
    omega (arith, below, le)

pub overflow_mul-number : goal.overflow_mul-number
overflow_mul-number c = omega (arith, room c.loop-digit.number c.loop-digit.digit-index c.loop-digit.invariant.below (omega arith))

pub overflow_add-number : goal.overflow_add-number
overflow_add-number c =
    let small : c.in_ok-number.field-0 < 10 = search rules in
    omega (arith, room c.loop-digit.number c.loop-digit.digit-index c.loop-digit.invariant.below (omega arith), small)

pub loop-digit-preserved : goal.loop-digit-preserved
loop-digit-preserved c =
    let bytes = c.args.digits.now in
    let i = c.loop-digit.digit-index in
    let digit = get_or bytes i 0 in
    let small : digit_value digit < 10 = search rules in
    let value : c.in_ok-number.field-0 ≡ digit_value digit = search rules in
    let v = c.loop-digit.invariant in
    record {
      digits = list_all_more is_ascii_digit bytes i 0 c.loop-digit-test.true ∙ rw (v.digits, is_digit digit small) refl;
      value = omega (arith, value, v.value, digits_value_more 10 bytes i c.loop-digit-test.true);
      below = omega (arith, v.below, pow_more 10 i, small, value);
    }
