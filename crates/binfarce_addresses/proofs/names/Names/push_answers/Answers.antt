use Rattle.std.proofs.Common.{◌<◌, ◌∙◌, ℕ, List, Option, None, ap, get_or, length, subst, sym, arith}
use Rattle.binfarce_addresses.specs.Counts.{reply_to}
use Rattle.binfarce_addresses.proofs.Shown.{found_held}
use Rattle.binfarce.specs.Symbol.{Entry}
use Rattle.binfarce_addresses.specs.Stream.{IsAnswerOf}
use Rattle.binfarce_addresses.specs.declared.lookup.Lookup.{Lookup}
use Rattle.binfarce_addresses.specs.declared.names.Answer.{Answer}
use Rattle.binfarce_addresses.specs.machine.Answers.{IsAnswerTo, no_answer}
use Rattle.binfarce_addresses.proofs.AddressLines.{one_behind, one_line_counted}
use Rattle.binfarce_addresses.proofs.names.Names.push_answers.Goals as goal

pub loop-answer-preserved : goal.loop-answer-preserved
loop-answer-preserved c =
    let addresses = c.in_ok-addresses.addresses.items in
    let items = c.deref-answer-items.result.now in
    let k = c.loop-answer.answer-index in
    let address = (get_or items k no_answer).address in
    let written = c.in_ok-push_line.ensures.answer in
    let within : k < length addresses = omega (arith, c.loop-answer-test.true, c.in_ok-answers.ensures.0, ap (length {A = Option ℕ}) c.deref.ensures.value, ap (length {A = Answer}) c.deref-answer-items.ensures.value) in
    let here : k < length c.deref.result.now = omega (arith, within, ap (length {A = Option ℕ}) c.deref.ensures.value) in
    let is = ap (λ (xs : List Answer). (get_or xs k no_answer).address) c.deref-answer-items.ensures.value ∙ (c.in_ok-answers.ensures.1 k here).0 ∙ ap (λ (xs : List (Option ℕ)). get_or xs k None) c.deref.ensures.value in
    let A : List Answer → Type 0 = λ xs. IsAnswerTo c.args.self.now.0 c.args.self.now.1 (get_or xs k no_answer) in
    let to = subst A (sym c.deref-answer-items.ensures.value) (c.in_ok-answers.ensures.1 k here).1 in
    let P : List Entry × Lookup → Type 0 = λ s. IsAnswerOf s.0 s.1 address written.0 in
    record {
      lines = one_behind c.args.self.now.0 c.args.self.now.1 addresses k address written.0 c.args.text.now.items c.loop-answer.text.items c.push_line.new.text.items within c.loop-answer.invariant.lines is (subst P c.loop-answer.invariant.same written.1) written.2;
      counts = one_line_counted c.args.self.now.0 c.args.self.now.1 addresses k c.reply.result c.args.counts.now c.loop-answer.counts c.add.new.self within c.loop-answer.invariant.counts (c.reply.ensures ∙ found_held c.args.self.now.0 c.args.self.now.1 address (get_or items k no_answer).found to ∙ ap (reply_to c.args.self.now.0 c.args.self.now.1) is) c.add.ensures;
      same = c.in_ok-push_line.ensures.same ∙ c.loop-answer.invariant.same;
    }
