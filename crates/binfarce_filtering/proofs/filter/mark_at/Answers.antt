use Rattle.std.proofs.Common.{ℕ, List, ◌≡◌, ◌+◌, ◌<◌, true, false, length, take, get_or, sym, subst, arith}
use Rattle.std.proofs.lemmas.List.{take_more}
use Rattle.binfarce_filtering.specs.machine.Scan.{is_plain}
use Rattle.binfarce_filtering.proofs.Scans.{plain_more, plain_on}
use Rattle.binfarce_filtering.proofs.filter.mark_at.Goals as goal

pub loop-at-preserved : goal.loop-at-preserved
loop-at-preserved c =
    let text = c.args.text.now in
    let at = c.loop-at.at in
    let n = c.others_at-others.result in
    let within : at < length text = omega (arith, c.loop-at-test.true) in
    let P : ℕ → Type 0 = λ m. is_plain false (take m text) ≡ true in
    let one : is_plain false (take (at + 1) text) ≡ true = subst (λ (x : List ℕ). is_plain false x ≡ true) (sym (take_more text at 0 within))
    (plain_more false (take at text) (get_or text at 0) c.loop-at.invariant.plain (c.is_mark_at.ensures.goes_on c.if-not-is_mark_at.true)) in
    record {
      within = omega (arith, c.others_at-others.ensures.within);
      plain = subst P (omega arith)
          (plain_on text (at + 1) n (omega arith) (omega (arith, c.others_at-others.ensures.within)) one
          (λ k under. subst (λ (m : ℕ). ¬ (get_or text m 0 ≡ 95)) (omega arith) (c.others_at-others.ensures.others k under)));
    }
