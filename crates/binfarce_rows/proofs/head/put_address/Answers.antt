use Rattle.std.proofs.Common.{◌-◌, ◌∙◌, sym, arith}
use Rattle.binfarce_rows.proofs.Heads.{hex_onto_step, hex_onto_address, hex_onto_ends}
use Rattle.binfarce_rows.proofs.head.put_address.Goals as goal

pub loop-at-preserved : goal.loop-at-preserved
loop-at-preserved c = record {
  within = omega arith;
  left = hex_onto_step (c.loop-at.at - 1) c.loop-at.at c.loop-at.rest c.hex_digit.result c.loop-at.digits (omega arith) (omega arith) c.hex_digit.ensures ∙ c.loop-at.invariant.left;
}

pub returns : goal.returns
returns c = sym (hex_onto_ends c.loop-at.at c.loop-at.rest c.loop-at.digits (omega arith)) ∙ c.loop-at.invariant.left ∙ hex_onto_address c.args.address (omega arith)
