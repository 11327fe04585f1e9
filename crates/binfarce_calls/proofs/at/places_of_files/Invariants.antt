use Rattle.std.proofs.Common.{map, take}
use Rattle.binfarce_words.specs.WordViews.{given_view}
use Rattle.binfarce_calls.specs.Placing.{TakesFiles}
use Rattle.binfarce_calls.proofs.at.places_of_files.Given as goal

-- the function symbols of the files so far are there or reported
abbrev pub invariant-loop-file : goal.invariant-loop-file
invariant-loop-file g l = TakesFiles (given_view l.given.words.now) (map (λ f. f.place) (take l.file-index l.files)) (map (λ f. f.0.now.place) l.found.items) (g.Y.System.reports l.fn.system) (g.Y.System.reports l.system)
