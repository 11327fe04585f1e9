use Rattle.std.proofs.Common.{map}
use Rattle.std.specs.List.{range_with_len}
use Rattle.binfarce_words.specs.WordViews.{given_view}
use Rattle.binfarce_calls.specs.Placing.{TakesFiles}
use Rattle.binfarce_calls.proofs.at.read_files.Given as goal

-- the files so far are read or reported
abbrev pub invariant-loop-place : goal.invariant-loop-place
invariant-loop-place g l = TakesFiles (given_view l.given.words.now) (range_with_len 0 l.place) (map (λ f. f.place) l.files.items) (g.Y.System.reports l.fn.system) (g.Y.System.reports l.system)
