use Rattle.std.proofs.Common.{◌≡◌, ℕ, ◌+◌, List, [], ◌∷◌, drop, take, get_or, ap, sym, subst, ◌∙◌, arith, length-drop}
use Rattle.std.proofs.lemmas.List.{get_or-drop, drop-drop, drop_all}
use Rattle.binfarce_legacy.specs.Legacy.{Element, Reads, ends_in_hash}
use Rattle.binfarce_legacy.specs.machine.Reading.{name_end}
use Rattle.binfarce_legacy.proofs.ElementLemmas.{first, reads_more, reads_tail, reads_element, reads_nil, reads_end_from, ends_as_last, first_written, last_is_hash}
use Rattle.binfarce_legacy.proofs.elements.elements_end.Goals as goal
use Rattle.binfarce_legacy.proofs.elements.elements_end.Goals.{then-loop-at-test+else-text-at-ne69, else-loop-at-test}

head_at : (t : List ℕ) (at : ℕ) → get_or (drop at t) 0 0 ≡ get_or t at 0
head_at t at = get_or-drop at t 0 0 ∙ ap (λ k. get_or t k 0) (omega arith)

pub returns-in_err-end : goal.returns-in_err-end
returns-in_err-end c =
    let t = c.args.text.now in
    rw c.from_residual.ensures (λ es rest r.
    let left = c.loop-at.invariant.ahead es rest r in
    c.in_err-end.ensures (reads_element (drop c.loop-at.at t) left.0 rest (λ e. c.if-text-at-ne69.true (sym (head_at t c.loop-at.at) ∙ e)) left.1))

pub loop-at-smaller : goal.loop-at-smaller
unfolding name_end
loop-at-smaller c =
    let end = ap (λ (p : ℕ × ℕ). p.1) c.in_ok-end.ensures.1 in
    omega (arith, end, c.in_ok-end.ensures.0.0, c.in_ok-end.ensures.0.1, length-drop c.loop-at.at c.args.text.now)

pub loop-at-preserved : goal.loop-at-preserved
loop-at-preserved c =
    let t = c.args.text.now in
    let u : List ℕ = drop c.loop-at.at t in
    let end : c.in_ok-end.end ≡ c.loop-at.at + name_end u = ap (λ (p : ℕ × ℕ). p.1) c.in_ok-end.ensures.1 in
    let same : drop c.in_ok-end.end t ≡ drop (name_end u) u = ap (λ k. drop k t) end ∙ sym (drop-drop (name_end u) c.loop-at.at t) in
    record {
      within = omega (arith, end, c.in_ok-end.ensures.0.1, length-drop c.loop-at.at t, c.loop-at.invariant.within);
      before = omega (arith, end);
      after = λ es rest r.
          let all = c.loop-at.invariant.after (first u ∷ es) rest (reads_more u es rest c.in_ok-end.ensures.0 (r.0, sym same ∙ r.1)) in
          (all.0, all.1, all.2 ∙ ap (λ (x : List ℕ). last_is_hash x es) (first_written u ∙ ap (λ k. take k u) (omega (arith, end))));
      ahead = λ es rest r.
          let left = c.loop-at.invariant.ahead es rest r in
          let others = reads_tail u left.0 rest (λ e. c.if-text-at-ne69.true (sym (head_at t c.loop-at.at) ∙ e)) left.1 in
          (others.0, (others.1.0, same ∙ others.1.1));
    }

pub returns-then-at-text : goal.returns-then-at-text
returns-then-at-text c = λ es rest r.
    let left = c.loop-at.invariant.ahead es rest r in
    reads_nil left.0 rest (left.1.0, sym (drop_all c.loop-at.at c.args.text.now (omega arith)) ∙ left.1.1)

pub returns : goal.returns
returns c =
    let t = c.args.text.now in
    let u : List ℕ = drop c.loop-at.at t in
    let e : get_or t c.loop-at.at 0 ≡ 69 = elim c.loop-at-test.branch [
      | then-loop-at-test+else-text-at-ne69 w ↦ omega arith
      | else-loop-at-test w ↦ absurd (omega arith)
    ] in
    let P : List ℕ → Type 0 = λ rest. (all : List Element) × Reads t all rest × (c.is_hash.result ≡ ends_in_hash all) in
    let all = c.loop-at.invariant.after [] (drop 1 u) (reads_end_from u (head_at t c.loop-at.at ∙ e)) in
    (omega arith, subst P (drop-drop 1 c.loop-at.at t) (all.0, all.1, c.is_hash.ensures ∙ sym all.2))

pub loop-at-init : goal.loop-at-init
loop-at-init c = record {
  before = omega arith;
  within = omega arith;
  after = λ es rest r. (es, r, ends_as_last es);
  ahead = λ es rest r. (es, r);
}
