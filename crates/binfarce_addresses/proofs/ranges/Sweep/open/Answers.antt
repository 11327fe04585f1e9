use Rattle.std.proofs.Common.{◌+◌, ◌-◌, ◌<◌, ◌≤◌, ◌∷◌, [], ◌++◌, ◌∙◌, ℕ, List, length, ap, refl, subst, sym, arith}
use Rattle.std.proofs.lemmas.Result.{on_ok_weaker}
use Rattle.binfarce_addresses.specs.declared.ranges.Row.{Row}
use Rattle.binfarce_addresses.specs.declared.ranges.Span.{Span}
use Rattle.binfarce_addresses.specs.machine.Sweep.{IsInnermost, end_at, row_at}
use Rattle.binfarce_addresses.proofs.Sweep.{do_reach, grown, opened}
use Rattle.binfarce_addresses.proofs.ranges.Sweep.open.Goals as goal
use Rattle.binfarce_addresses.proofs.ranges.Sweep.open.Goals.{After-begin, in-Some, in_default-2, in_default}

-- the last row that stays open reaches further
last_reach : (c : After-begin) → 0 < length c.loop-open.self.stack.items → (row_at c.args.rows.now c.args.row).last + 1 ≤ end_at c.args.rows.now c.loop-open.self.stack.items (length c.loop-open.self.stack.items - 1)
last_reach c some = elim c.match-matches.branch [
  | in-Some w ↦ absurd cc
  | in_default-2 w ↦ omega (arith, ap (λ (r : Row). r.last) w.in-Some.ensures.1)
  | in_default w ↦ absurd (omega (arith, some, w.in_default.ensures))
]

pub returns-clause-swept : goal.returns-clause-swept
returns-clause-swept c =
    let v = c.loop-open.invariant in
    let rows = c.args.rows.now in
    let old = c.args.self.now in
    let new = c.begin.new.self in
    let kept = c.loop-open.self.stack.items in
    let further = do_reach rows c.args.row old.spans.items old.stack.items kept ((row_at rows c.args.row).last + 1) c.requires.swept.1 v.within v.are (last_reach c) in
    on_ok_weaker c.begin.result (λ begun.
    let P : List ℕ → Type 0 = λ s. IsInnermost rows s begun.1.0 in (
      omega (arith, c.requires.within),
      opened rows c.args.row old.spans.items new.spans.items old.stack.items new.stack.items (length kept) _ c.requires.order c.requires.within c.requires.swept.1 c.requires.behind c.requires.reach v.within (λ m lt. omega (arith, further m lt)) v.outlived
          (begun.0 ∙ c.in_ok-push.ensures.items ∙ ap (λ (xs : List ℕ). xs ++ c.args.row ∷ []) v.are)
          (grown old.spans.items new.spans.items _ (begun.1.2 ∙ ap (λ (xs : List Span). xs ++ record { start = (row_at rows c.args.row).address; place = begun.1.0 } ∷ []) v.spans)) refl (subst P (sym begun.0) begun.1.1),
    )) c.begin.ensures
