use Rattle.std.proofs.Common.{◌≡◌, ◌++◌, ℕ, List, map, sym, ap, subst, ◌∙◌}
use Rattle.std.proofs.lemmas.List.{map-append}
use Rattle.binfarce_limits.specs.Rows.{finding_words}
use Rattle.binfarce_jobs.specs.Files.{Grows, Hinted}
use Rattle.binfarce_jobs.specs.Hints.{words_of}
use Rattle.binfarce_jobs.proofs.FileLoop.{reports_more}
use Rattle.binfarce_jobs.proofs.files.give_all.Goals as goal

pub returns-clause-hints : goal.returns-clause-hints
returns-clause-hints g c =
    let f : List ℕ → Hinted = λ words. (c.args.path.now, words) in
    let one = words_of c.args.hints.first in
    let two = words_of c.args.hints.second in
    let three = words_of c.args.hints.excess in
    let rest = map finding_words c.args.hints.rows.items in
    let hints = g.Y.System.hints in
    let last = reports_more (hints c.give-2.new.system) (hints c.give-3.new.system) (hints c.give_rows.new.system) (map f three) (map f rest) c.give-3.ensures.hints c.give_rows.ensures.hints in
    let more = reports_more (hints c.give.new.system) (hints c.give-2.new.system) (hints c.give_rows.new.system) (map f two) (map f three ++ map f rest) c.give-2.ensures.hints last in
    let all = reports_more (hints c.args.system.now) (hints c.give.new.system) (hints c.give_rows.new.system) (map f one) (map f two ++ (map f three ++ map f rest)) c.give.ensures.hints more in
    let is : map f (one ++ (two ++ (three ++ rest))) ≡ map f one ++ (map f two ++ (map f three ++ map f rest)) =
    map-append f one (two ++ (three ++ rest))
    ∙ ap (λ (xs : List Hinted). map f one ++ xs) (map-append f two (three ++ rest) ∙ ap (λ (xs : List Hinted). map f two ++ xs) (map-append f three rest)) in
    subst (Grows (hints c.args.system.now) (hints c.give_rows.new.system)) (sym is) all
