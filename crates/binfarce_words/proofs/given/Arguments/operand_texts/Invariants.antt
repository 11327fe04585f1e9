use Rattle.std.proofs.Common.{◌≡◌, ◌++◌, map}
use Rattle.std.specs.List.{filter_map}
use Rattle.binfarce_words.specs.Words.{operand_texts, text_of}
use Rattle.binfarce_words.specs.WordViews.{given_view}
use Rattle.binfarce_words.proofs.WordLoop.{left}
use Rattle.binfarce_words.proofs.given.Arguments.operand_texts.Given as goal

-- the texts so far, and those of the operands that are left, are all
abbrev pub invariant-loop-operand : goal.invariant-loop-operand
invariant-loop-operand l = map (λ t. t.now) l.texts.items ++ filter_map text_of (left l.self.operands.items l.operand-index) ≡ operand_texts (given_view l.self)
