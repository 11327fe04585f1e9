use Rattle.std.proofs.Common.{arith}
use Rattle.std.proofs.lemmas.Grind.{common_steps}
use Rattle.binfarce_v0_state.proofs.Texts.{encodes_more}
use Rattle.binfarce_v0_state.proofs.text.push_characters.Goals as goal

pub loop-c-preserved : goal.loop-c-preserved
loop-c-preserved c =
    let more = encodes_more c.args.characters.now c.loop-c.c-index c.loop-c-test.true in grind (arith, common_steps)
