use Rattle.std.proofs.Common.{◌≡◌, ℕ, length, subst, arith}
use Rattle.binfarce_addresses.specs.machine.Sweep.{IsSweep}
use Rattle.binfarce_addresses.proofs.Sweep.{swept}
use Rattle.binfarce_addresses.proofs.ranges.spans_of.Goals as goal

pub close_before-requires : goal.close_before-requires
close_before-requires c = (c.loop-row.row, c.loop-row.invariant.swept)

pub open-requires-clause-swept : goal.open-requires-clause-swept
open-requires-clause-swept c = c.in_ok-close_before.ensures.swept c.loop-row.row c.loop-row.invariant.swept

pub close_before-requires-2 : goal.close_before-requires-2
close_before-requires-2 c = (c.loop-row.row, c.loop-row.invariant.swept)

pub returns : goal.returns
returns c =
    let new = c.close_before-2.new.self in
    let whole : c.loop-row.row ≡ length c.args.rows.now = omega arith in
    let P : ℕ → Type 0 = λ n. IsSweep c.args.rows.now n new.spans.items new.stack.items in
    swept c.args.rows.now new.spans.items new.stack.items (subst P whole (c.in_ok-close_before-2.ensures.swept c.loop-row.row c.loop-row.invariant.swept).1) c.in_ok-close_before-2.ensures.reach
