use Rattle.std.proofs.Common.{arith}
use Rattle.binfarce_text.specs.machine.Strides.{is_other}
use Rattle.binfarce_text.proofs.Lanes.{other_mask, run_of_all, run_to_first}
use Rattle.binfarce_text.proofs.strides.len_before.Goals as goal

pub returns-then-flags-eq0 : goal.returns-then-flags-eq0
returns-then-flags-eq0 c =
    let v = c.args.bytes.now in
    run_of_all (is_other c.args.a c.args.b c.args.c) v 16 _ c.requires (other_mask c.args.a c.args.b c.args.c v c.requires) c.if-flags-eq0.true

pub returns-else-flags-eq0 : goal.returns-else-flags-eq0
returns-else-flags-eq0 c =
    let v = c.args.bytes.now in
    run_to_first (is_other c.args.a c.args.b c.args.c) v 16 _ c.requires (omega arith) (other_mask c.args.a c.args.b c.args.c v c.requires) (omega (arith, c.if-flags-eq0.false))
