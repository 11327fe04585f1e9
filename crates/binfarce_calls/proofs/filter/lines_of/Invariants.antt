use Rattle.binfarce_calls.proofs.NameLines.{HasLines}
use Rattle.binfarce_calls.proofs.filter.lines_of.Given as goal

-- the text is the lines of the names before
abbrev pub invariant-loop-name : goal.invariant-loop-name
invariant-loop-name l = HasLines l.names l.name-index l.text.items
