use Rattle.std.proofs.Common.{not, leb, cond, bit_and, bit_or, refl, arith}
use Rattle.std.specs.Char.{is_ascii_alphanumeric}
use Rattle.binfarce_text.proofs.Lanes.{joined, each_is, loaded, masked, run_of_all, run_to_first}
use Rattle.binfarce_v0_grammar.proofs.numbers.digit_run.Goals as goal

pub returns-then-others-eq0 : goal.returns-then-others-eq0
returns-then-others-eq0 c =
    let v = c.args.bytes.now in
    let long = c.requires in
    run_of_all is_ascii_alphanumeric v 16 _ long
    (masked _ (λ x. not (is_ascii_alphanumeric x)) v _ long c.type_inv.bytes
    (joined bit_and _ _ v
    (joined (λ a b. cond (leb a b) 255 0) _ _ v (each_is v 16 _ long) (joined _ _ _ v (joined bit_or _ _ v (loaded v 16 long) (each_is v 16 _ long)) (each_is v 16 _ long)))
    (joined (λ a b. cond (leb a b) 255 0) _ _ v (each_is v 16 _ long) (joined _ _ _ v (loaded v 16 long) (each_is v 16 _ long))))
    refl)
    c.if-others-eq0.true

pub returns-else-others-eq0 : goal.returns-else-others-eq0
returns-else-others-eq0 c =
    let v = c.args.bytes.now in
    let long = c.requires in
    run_to_first is_ascii_alphanumeric v 16 _ long (omega arith)
    (masked _ (λ x. not (is_ascii_alphanumeric x)) v _ long c.type_inv.bytes
    (joined bit_and _ _ v
    (joined (λ a b. cond (leb a b) 255 0) _ _ v (each_is v 16 _ long) (joined _ _ _ v (joined bit_or _ _ v (loaded v 16 long) (each_is v 16 _ long)) (each_is v 16 _ long)))
    (joined (λ a b. cond (leb a b) 255 0) _ _ v (each_is v 16 _ long) (joined _ _ _ v (loaded v 16 long) (each_is v 16 _ long))))
    refl)
    (omega (arith, c.if-others-eq0.false))
