use Rattle.binfarce_words.specs.WordViews.{reading_view}
use Rattle.binfarce_words.proofs.WordLoop.{HasRead}
use Rattle.binfarce_words.proofs.reading.read_given.Given as goal

-- the arguments so far gave the reading
abbrev pub invariant-loop-argument : goal.invariant-loop-argument
invariant-loop-argument l = HasRead l.command l.arguments l.argument-index (reading_view l.reading)
