use Rattle.std.proofs.Common.{arith}
use Rattle.std.proofs.lemmas.Int.Digits.{digits_value_more}
use Rattle.std.proofs.lemmas.List.Sums.{prefix_len-drop_yes}
use Rattle.binfarce_text.specs.Letters.{is_hex_digit}
use Rattle.binfarce_legacy.proofs.escapes.hex_count.Goals as goal

pub loop-digits-preserved : goal.loop-digits-preserved
loop-digits-preserved c =
    let t = c.args.text.now in
    let i = c.loop-digits.digits in
    let run = prefix_len-drop_yes is_hex_digit t i 0 (omega arith) c.in-Some-hex_value.ensures.value.0 in
    let value = digits_value_more 16 t i (omega arith) in
    record {
      within = omega arith;
      run = omega (arith, run, c.loop-digits.invariant.run);
      value = omega (arith, value, c.in-Some-hex_value.ensures.value.1, c.loop-digits.invariant.value);
    }
