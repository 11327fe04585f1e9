use Rattle.std.proofs.Common.{◌≡◌, ◌+◌, ◌-◌, ◌∙◌, ℕ, List, ap, length, take, subst, sym, arith}
use Rattle.std.proofs.lemmas.List.{take_all}
use Rattle.binfarce_addresses.specs.declared.ranges.Row.{Row}
use Rattle.binfarce_addresses.specs.declared.ranges.Span.{Span}
use Rattle.binfarce_addresses.specs.machine.Sweep.{IsSweep}
use Rattle.binfarce_addresses.proofs.Sweep.{closed, do_reach, grown, newest, still_known}
use Rattle.binfarce_addresses.proofs.ranges.Sweep.close_before.Goals as goal

pub innermost-requires : goal.innermost-requires
innermost-requires c = let at = c.loop-row.invariant.swept c.requires.0 c.requires.1 in λ m lt. omega (arith, at.1.known m lt, at.0)

pub begin-requires : goal.begin-requires
begin-requires c =
    let old = c.loop-row.self in
    let at = c.loop-row.invariant.swept c.requires.0 c.requires.1 in
    let top : old.stack.len - 1 ≡ length old.stack.items - 1 = omega (arith, old.stack.ok.0) in
    still_known (length c.args.rows.now) old.stack.items c.pop.new.self.items (c.pop.ensures.rest ∙ ap (λ (n : ℕ). take n old.stack.items) top) (λ m lt. omega (arith, at.1.known m lt, at.0))

pub loop-row-preserved : goal.loop-row-preserved
loop-row-preserved c =
    let rows = c.args.rows.now in
    let old = c.loop-row.self in
    let new = c.begin.new.self in
    let begun = c.in_ok-begin.ensures in
    let top : old.stack.len - 1 ≡ length old.stack.items - 1 = omega (arith, old.stack.ok.0) in
    let less = c.pop.ensures.rest ∙ ap (λ (n : ℕ). take n old.stack.items) top in
    let at = c.loop-row.invariant.swept c.requires.0 c.requires.1 in
    record {
      swept = λ n was.
          let here = c.loop-row.invariant.swept n was in
          let P : List ℕ → Type 0 = λ s. IsSweep rows n new.spans.items s in
          (here.0, subst P (sym begun.0) (closed rows n old.spans.items new.spans.items old.stack.items c.pop.new.self.items _ here.1 c.in-Some.ensures.0 less (grown old.spans.items new.spans.items _ begun.1.2) (ap (λ (r : Row). r.last + 1) c.in-Some.ensures.1) begun.1.1));
      behind = λ le. omega (arith, ap (λ (s : Span). s.start) (newest rows c.requires.0 old.spans.items old.stack.items at.1 _ new.spans.items (grown old.spans.items new.spans.items _ begun.1.2)), c.if-row-address.false);
    }

pub returns-then-row-address-clause-reach : goal.returns-then-row-address-clause-reach
returns-then-row-address-clause-reach c =
    let old = c.loop-row.self in
    let at = (c.loop-row.invariant.swept c.requires.0 c.requires.1).1 in
    do_reach c.args.rows.now c.requires.0 old.spans.items old.stack.items old.stack.items c.args.address at (omega arith) (sym (take_all (length old.stack.items) old.stack.items (omega arith))) (λ some. omega (arith, c.if-row-address.true, ap (λ (r : Row). r.last) c.in-Some.ensures.1))
