use Rattle.std.proofs.Common.{sym, ◌∙◌}
use Rattle.binfarce_v0_grammar.proofs.NumberLemmas.{one_digit}
use Rattle.binfarce_v0_grammar.proofs.numbers.few_digits_10.Goals as goal

pub returns-then-not-is_ascii_digit : goal.returns-then-not-is_ascii_digit
returns-then-not-is_ascii_digit c =
    one_digit c.args.part.now c.args.start c.args.first _ _ c.requires.within c.requires.first c.requires.digit
    c.byte_at-second.ensures.value (sym c.is_ascii_digit.ensures.value ∙ c.if-not-is_ascii_digit.true) c.from.ensures
