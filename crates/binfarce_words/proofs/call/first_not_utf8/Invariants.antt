use Rattle.std.proofs.Common.{◌≡◌, map}
use Rattle.binfarce_words.specs.Words.{first_no_utf8}
use Rattle.binfarce_words.specs.WordViews.{argument_view}
use Rattle.binfarce_words.proofs.WordLoop.{left}
use Rattle.binfarce_words.proofs.call.first_not_utf8.Given as goal

-- none of the arguments so far is one
abbrev pub invariant-loop-argument : goal.invariant-loop-argument
invariant-loop-argument l = first_no_utf8 (map argument_view l.arguments) ≡ first_no_utf8 (left l.arguments l.argument-index)
