use Rattle.std.proofs.Common.{◌≡◌, [], Some, None, ap, append-nil, length, map, refl, subst, sym, arith}
use Rattle.std.proofs.lemmas.List.{length-map}
use Rattle.std.specs.List.{range_with_len}
use Rattle.std.specs.Option.{option_map}
use Rattle.binfarce_words.specs.WordViews.{argument_view, given_view}
use Rattle.binfarce_jobs.proofs.FileLoop.{grows_none}
use Rattle.binfarce_calls.specs.Placing.{IsReadFile, TakesFiles}
use Rattle.binfarce_calls.specs.declared.at.Placed.{Placed}
use Rattle.binfarce_calls.proofs.Takings.{later, one_taken, pushed, range_more}
use Rattle.binfarce_calls.proofs.at.read_files.Goals as goal
use Rattle.binfarce_calls.proofs.at.read_files.Goals.{in-Placed+in-Ok, in-Refused}

pub loop-place-init : goal.loop-place-init
loop-place-init g c = ([], refl, ap (map _) c.new-files.ensures.items, grows_none (g.Y.System.reports c.args.system.now))

pub returns-in-NoMaps : goal.returns-in-NoMaps
returns-in-NoMaps g c =
    let given = given_view c.args.given.now.words.now in
    let mid = g.Y.System.reports c.loop-place.system in
    let after = g.Y.System.reports c.read_file.new.system in
    let read = subst (IsReadFile given (option_map (λ m. m.now) c.args.given.now.maps) c.loop-place.place mid after) c.in-NoMaps.is c.in_ok-file.ensures in
    (c.loop-place.place, _, later given (range_with_len 0 c.loop-place.place) _ (g.Y.System.reports c.args.system.now) mid after c.loop-place.invariant read)

pub loop-place-preserved : goal.loop-place-preserved
loop-place-preserved g c =
    let given = given_view c.args.given.now.words.now in
    let place = c.loop-place.place in
    let before = g.Y.System.reports c.args.system.now in
    let mid = g.Y.System.reports c.loop-place.system in
    let after = g.Y.System.reports c.read_file.new.system in
    let next = range_more place in
    elim c.match-branch-2.branch [
      | in-Placed+in-Ok w ↦ rw w.files-is (
          let read = subst (IsReadFile given (option_map (λ m. m.now) c.args.given.now.maps) place mid after) w.in-Placed.is c.in_ok-file.ensures in
          one_taken given (range_with_len 0 place) _ place None _ _ before mid after next (pushed _ _ _ _ place w.in-Ok.ensures.items read.0) c.loop-place.invariant read.1)
      | in-Refused w ↦ rw w.files-is (
          let refused = subst (IsReadFile given (option_map (λ m. m.now) c.args.given.now.maps) place mid after) w.in-Refused.is c.in_ok-file.ensures in
          one_taken given (range_with_len 0 place) _ place (Some refused.0) _ _ before mid after next (sym (append-nil _)) c.loop-place.invariant refused.1)
    ]

pub returns : goal.returns
returns g c =
    let given = given_view c.args.given.now.words.now in
    let operands = c.args.given.now.words.now.operands.items in
    let all : c.loop-place.place ≡ length (map argument_view operands) = omega (arith, length-map operands argument_view, c.loop-place-test.false, c.loop-place.auto.place-end, c.len-place-end.ensures) in
    subst (λ count. TakesFiles given (range_with_len 0 count) (map (λ (f : Placed g.row.F.Denot). f.place) c.loop-place.files.items) (g.Y.System.reports c.args.system.now) (g.Y.System.reports c.loop-place.system)) all c.loop-place.invariant
