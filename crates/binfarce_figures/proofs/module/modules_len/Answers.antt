use Rattle.std.proofs.Common.{◌≡◌, ◌+◌, ◌<◌, ◌++◌, ◌∷◌, [], ℕ, List, true, false, drop, take, length, get_or, if◌then◌else◌, sym, ap, subst, ◌∙◌, arith}
use Rattle.std.proofs.lemmas.List.{drop_more, take_more}
use Rattle.std.proofs.lemmas.Str.{IsCharBoundary-start}
use Rattle.std.specs.Str.{IsCharBoundary}
use Rattle.binfarce_figures.specs.Modules.{goes_on, leaves, may_end, modules}
use Rattle.binfarce_figures.proofs.Paths.{boundary, ends_here, goes_past, left, whole}
use Rattle.binfarce_figures.proofs.module.modules_len.Goals as goal
use Rattle.binfarce_figures.proofs.module.modules_len.Goals.{then-may_end, else-may_end}

pub loop-at-init : goal.loop-at-init
loop-at-init c = record {
  within = omega arith;
  before = omega arith;
  boundary = IsCharBoundary-start c.args.path.now c.utf8.path;
  due = whole c.args.path.now;
}

pub returns-then-leaves-clause-modules : goal.returns-then-leaves-clause-modules
returns-then-leaves-clause-modules c =
    let at = c.loop-at.at in
    let path = c.args.path.now in
    let rest = drop at path in
    let below : at < length path = let k = ap length c.as_bytes-bytes.ensures.value in let l = c.loop-at-test.true in omega arith in
    let is = drop_more path at 0 below in
    let left_is = left at c.as_bytes-bytes.result.now path c.as_bytes-bytes.ensures.value in
    let others = drop (at + 1) path in
    let d = get_or path at 0 in
    let due = c.loop-at.invariant.due ∙ ap (λ (t : List ℕ). if goes_on t then take at path ++ modules t else take c.loop-at.end path) is in
    let all = ends_here path at c.loop-at.end d others due in
    let gone : leaves (d ∷ others) ≡ true = ap leaves (sym is ∙ sym left_is) ∙ sym c.leaves.ensures ∙ c.if-leaves.true in
    let ends : may_end (d ∷ others) ≡ c.may_end.result = ap may_end (sym is ∙ sym left_is) ∙ sym c.may_end.ensures in
    elim c.if-may_end.branch [
      | then-may_end w ↦ ap (λ (k : ℕ). take k path) w.end-is ∙ all true (ends ∙ w.if-may_end.true) gone
      | else-may_end w ↦ ap (λ (k : ℕ). take k path) w.end-is ∙ all false (ends ∙ w.if-may_end.false) gone
    ]

pub loop-at-preserved : goal.loop-at-preserved
loop-at-preserved c =
    let at = c.loop-at.at in
    let path = c.args.path.now in
    let below : at < length path = let k = ap length c.as_bytes-bytes.ensures.value in let l = c.loop-at-test.true in omega arith in
    let is = drop_more path at 0 below in
    let left_is = left at c.as_bytes-bytes.result.now path c.as_bytes-bytes.ensures.value in
    let others = drop (at + 1) path in
    let d = get_or path at 0 in
    let due = c.loop-at.invariant.due ∙ ap (λ (t : List ℕ). if goes_on t then take at path ++ modules t else take c.loop-at.end path) is in
    let all = goes_past path at c.loop-at.end d others due in
    let stays : leaves (d ∷ others) ≡ false = ap leaves (sym is ∙ sym left_is) ∙ sym c.leaves.ensures ∙ c.if-leaves.false in
    let ends : may_end (d ∷ others) ≡ c.may_end.result = ap may_end (sym is ∙ sym left_is) ∙ sym c.may_end.ensures in
    let taken : take (at + 1) path ≡ take at path ++ d ∷ [] = take_more path at 0 below in
    let now : ℕ → Type 0 = λ k. modules path ≡ (if goes_on others then take (at + 1) path ++ modules others else take k path) in
    record {
      within = omega arith;
      before = elim c.if-may_end.branch [
        | then-may_end w ↦ let e = w.end-is in omega arith
        | else-may_end w ↦ let e = w.end-is in let k = c.loop-at.invariant.before in omega arith
      ];
      boundary = elim c.if-may_end.branch [
        | then-may_end w ↦ subst (IsCharBoundary path) (sym w.end-is) (boundary path at below (ap may_end is ∙ ends ∙ w.if-may_end.true))
        | else-may_end w ↦ subst (IsCharBoundary path) (sym w.end-is) c.loop-at.invariant.boundary
      ];
      due = elim c.if-may_end.branch [
        | then-may_end w ↦ subst now (sym w.end-is) (all true (ends ∙ w.if-may_end.true) stays taken)
        | else-may_end w ↦ subst now (sym w.end-is) (all false (ends ∙ w.if-may_end.false) stays taken)
      ];
    }
