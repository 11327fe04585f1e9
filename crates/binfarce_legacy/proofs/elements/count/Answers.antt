use Rattle.std.proofs.Common.{get_or, sym, arith}
use Rattle.std.proofs.lemmas.Int.Digits.{digits_value_more}
use Rattle.std.proofs.lemmas.List.Sums.{prefix_len-drop_yes}
use Rattle.std.proofs.lemmas.Str.{digit_value_digit}
use Rattle.std.specs.Char.{is_ascii_digit}
use Rattle.binfarce_legacy.proofs.elements.count.Goals as goal

pub loop-digits-preserved : goal.loop-digits-preserved
loop-digits-preserved c =
    let t = c.args.text.now in
    let i = c.loop-digits.digits in
    let run = prefix_len-drop_yes is_ascii_digit t i 0 (omega arith) (sym c.if-is_ascii_digit.ensures.value) in
    let value = digits_value_more 10 t i (omega arith) in
    let digit = digit_value_digit (get_or t i 0) c.if-is_ascii_digit.ensures.cases in
    record {
      within = omega arith;
      run = omega (arith, run, c.loop-digits.invariant.run);
      value = omega (arith, value, digit, c.loop-digits.invariant.value);
    }
