use Rattle.std.proofs.Common.{◌≡◌, ◌++◌, ◌∷◌, ◌∙◌, ℕ, List, [], true, true≢false, refl, sym, append-nil, arith}
use Rattle.std.proofs.lemmas.Result.{on_ok_weaker}
use Rattle.binfarce_addresses.specs.machine.Answering.{Answers}
use Rattle.binfarce_addresses.proofs.Answering.{breaks_off, breaks_off_done, ends, ends_none, nil, not_nil}
use Rattle.binfarce_addresses.proofs.stream.LinesPass.end.Goals.{then-not-ended-via-then-not-ended, then-not-ended-via-else-not-ended+then-is_empty}
use Rattle.binfarce_addresses.proofs.stream.LinesPass.end.Goals as goal

pub returns-then-not-ended-clause-makes : goal.returns-then-not-ended-clause-makes
returns-then-not-ended-clause-makes g c =
    let self = c.args.self.now in
    let none : c.args.ended ≡ true → self.line.items ≡ [] = elim c.then-not-ended.branch [
      | then-not-ended-via-then-not-ended w ↦ λ ended. absurd (true≢false (sym ended ∙ w.if-not-ended.true))
      | then-not-ended-via-else-not-ended+then-is_empty w ↦ λ ended. nil self.line.items self.line.len (omega (arith, self.line.ok)) (sym w.is_empty.ensures ∙ w.if-is_empty.true)
    ] in
    ([], (λ first text made holds. ends_none first self c.args.ended text made none holds), sym (append-nil c.args.out.now.items))

pub returns-then-not-ended-clause-breaks_off : goal.returns-then-not-ended-clause-breaks_off
returns-then-not-ended-clause-breaks_off g c = λ first now text part made others holds. breaks_off first now text part made others holds

pub returns-then-not-ended-clause-done : goal.returns-then-not-ended-clause-done
returns-then-not-ended-clause-done g c = λ first now ended text made others is. breaks_off_done first now ended text made others is

pub returns-clause-makes : goal.returns-clause-makes
returns-clause-makes g c =
    let old = c.args.self.now in
    let new = c.push.new.self in
    on_ok_weaker {P = (more : List ℕ) × Answers old new (10 ∷ []) more × (c.push.new.out.items ≡ c.args.out.now.items ++ more)} c.push.result
    (λ is. (
      is.0,
      (λ first text made holds. ends first old new (10 ∷ []) is.0 is.1 text made holds refl c.args.ended c.if-not-ended.false (not_nil old.line.items old.line.len (omega (arith, old.line.ok)) (sym c.is_empty.ensures ∙ c.if-is_empty.false))),
      is.2,
    )) c.push.ensures

pub returns-clause-breaks_off : goal.returns-clause-breaks_off
returns-clause-breaks_off g c = λ first now text part made others holds. breaks_off first now text part made others holds

pub returns-clause-done : goal.returns-clause-done
returns-clause-done g c = λ first now ended text made others is. breaks_off_done first now ended text made others is
