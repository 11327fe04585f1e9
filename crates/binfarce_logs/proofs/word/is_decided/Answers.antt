use Rattle.std.proofs.Common.{◌<◌, ◌∙◌, ◌-◌, List, ℕ, Bool, ap, arith, length, sym, subst}
use Rattle.std.proofs.lemmas.Bool.{false≢true}
use Rattle.binfarce_logs.specs.Word.{digits_len}
use Rattle.binfarce_logs.specs.machine.Words.{IsDecided}
use Rattle.binfarce_addresses.proofs.Streams.{left_of}
use Rattle.binfarce_logs.proofs.Words.{decided_last, decided_more, decided_one, not_true, prefix_is_short, too_few}
use Rattle.binfarce_logs.proofs.word.is_decided.Goals as goal

pub returns-then-is_last-clause-decided : goal.returns-then-is_last-clause-decided
returns-then-is_last-clause-decided c = λ _. subst (λ (last : Bool). IsDecided c.args.is_bare last c.args.text.now) (sym c.if-is_last.true) (decided_last c.args.is_bare c.args.text.now)

pub returns-then-text-gt-LONGEST-clause-decided : goal.returns-then-text-gt-LONGEST-clause-decided
returns-then-text-gt-LONGEST-clause-decided c = λ _.
    let long = c.if-text-gt-LONGEST.true in
    decided_more c.args.is_bare c.args.is_last c.args.text.now (omega (arith, long)) (λ first all. omega (arith, long)) (λ are all. omega (arith, long))

pub returns-then-text-eq1-clause-decided : goal.returns-then-text-eq1-clause-decided
returns-then-text-eq1-clause-decided c = λ none. decided_one c.args.is_bare c.args.is_last c.args.text.now (omega (arith, c.if-text-eq1.true)) (sym c.may_begin.ensures ∙ not_true c.may_begin.result none)

pub returns-then-has_prefix-clause-decided : goal.returns-then-has_prefix-clause-decided
returns-then-has_prefix-clause-decided c = λ short.
    let text = c.args.text.now in
    let some : 1 < length text = omega (arith, c.requires, c.if-text-eq1.false) in
    decided_more c.args.is_bare c.args.is_last text some
    (λ first all. absurd (too_few c.digits_len.result (length text - 2) short (c.digits_len.ensures.len ∙ ap (λ (x : List ℕ). digits_len x) (left_of text 2) ∙ all)))
    (λ are all. absurd (prefix_is_short text (sym c.has_prefix.ensures ∙ c.if-has_prefix.true) some all))

pub returns-then-not-is_bare-clause-decided : goal.returns-then-not-is_bare-clause-decided
returns-then-not-is_bare-clause-decided c = λ _.
    decided_more c.args.is_bare c.args.is_last c.args.text.now (omega (arith, c.requires, c.if-text-eq1.false))
    (λ first all. absurd (false≢true (sym c.if-has_prefix.false ∙ c.has_prefix.ensures ∙ first))) (λ are all. absurd (false≢true (sym c.if-not-is_bare.true ∙ are)))

pub returns-clause-decided : goal.returns-clause-decided
returns-clause-decided c = λ short.
    decided_more c.args.is_bare c.args.is_last c.args.text.now (omega (arith, c.requires, c.if-text-eq1.false))
    (λ first all. absurd (false≢true (sym c.if-has_prefix.false ∙ c.has_prefix.ensures ∙ first)))
    (λ are all. absurd (too_few c.digits_len-2.result (length c.args.text.now) short (c.digits_len-2.ensures.len ∙ all)))
