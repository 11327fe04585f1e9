use Rattle.std.proofs.Common.{◌≡◌, ◌∙◌, ℕ, ◌+◌, ◌++◌, [], ◌∷◌, Some, None, ap, append-nil, map, refl, subst, sym, take}
use Rattle.std.proofs.lemmas.List.{map_more}
use Rattle.binfarce_words.specs.WordViews.{given_view}
use Rattle.binfarce_jobs.specs.Files.{Reports}
use Rattle.binfarce_jobs.proofs.FileLoop.{grows_none}
use Rattle.binfarce_calls.specs.declared.at.Placed.{Placed}
use Rattle.binfarce_calls.proofs.Takings.{one_taken, pushed}
use Rattle.binfarce_calls.proofs.at.places_of_files.Goals as goal
use Rattle.binfarce_calls.proofs.at.places_of_files.Goals.{in-Ok+in-Ok-push, in-Err}

pub loop-file-init : goal.loop-file-init
loop-file-init g c = ([], refl, ap (map _) c.new-found.ensures.items, grows_none (g.Y.System.reports c.args.system.now))

pub loop-file-preserved : goal.loop-file-preserved
loop-file-preserved g c =
    let given = given_view c.args.given.now.words.now in
    let files = c.args.files.now in
    let i = c.loop-file.file-index in
    let place_of : Placed g.row.F.Denot → ℕ = λ f. f.place in
    let place = c.file-item.result.place in
    let places = map place_of (take i files) in
    let before = g.Y.System.reports c.args.system.now in
    let mid = g.Y.System.reports c.loop-file.system in
    let next : map place_of (take (i + 1) files) ≡ places ++ place ∷ [] = map_more place_of files i _ c.loop-file-test.true ∙ ap (λ f. places ++ place_of f ∷ []) (sym c.file-item.is) in
    elim c.match-places_of.branch [
      | in-Ok+in-Ok-push w ↦ rw (w.system-is, w.found-is)
          (one_taken given places _ place None _ _ before mid mid next (pushed _ _ _ _ place w.in-Ok-push.ensures.items refl) c.loop-file.invariant (grows_none mid))
      | in-Err w ↦ rw (w.system-is, w.found-is)
          (one_taken given places _ place (Some w.in-Err.fault) _ _ before mid (g.Y.System.reports w.report.new.self) next (sym (append-nil _)) c.loop-file.invariant (subst (λ path. Reports mid (g.Y.System.reports w.report.new.self) ((path, w.in-Err.fault) ∷ [])) w.file_at.ensures w.report.ensures.reports))
    ]
