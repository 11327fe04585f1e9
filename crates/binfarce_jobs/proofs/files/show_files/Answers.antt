use Rattle.std.proofs.Common.{◌∙◌, ◌+◌, List, [], Err, Ok, length, ltb, get_or, refl, subst, sym, take}
use Rattle.std.proofs.lemmas.List.{take_all}
use Rattle.binfarce_words.specs.WordViews.{argument_view}
use Rattle.binfarce_words.specs.declared.argument.Argument.{Argument}
use Rattle.binfarce_words.specs.declared.argument.Argument.TheVariants.{Text}
use Rattle.binfarce_jobs.specs.Files.{Shows, asked_files, state_of}
use Rattle.binfarce_jobs.specs.declared.limit.Verdict.{Verdict}
use Rattle.binfarce_jobs.proofs.FileLoop.{none_shown, goes_on, ends, held_there, one_at, passed_on, views}
use Rattle.binfarce_jobs.proofs.files.show_files.Goals as goal

pub loop-argument-init : goal.loop-argument-init
loop-argument-init g c = record {
  shows = λ held are.
      let start = state_of g.W.Write.contents c.args.out.now (g.Y.System.reports c.args.system.now) (g.Y.System.hints c.args.system.now) in
      let asked = asked_files c.args.asked.now (ltb 1 (length c.args.files.now)) (g.Y.System.may_fail_at c.args.system.now) held in
      subst (λ (v : Verdict). Shows asked [] start start v) (sym c.done-all.ensures) (none_shown asked start);
  bytes = refl;
  may_fail = refl;
}

pub returns-in_err-shown : goal.returns-in_err-shown
returns-in_err-shown g c = λ held are.
    let files = c.args.files.now in
    let i = c.loop-argument.argument-index in
    let d : Argument = Text (record { ref_ptr = (0, 0); now = [] }) in
    let bytes = g.Y.System.bytes_at c.args.system.now in
    let asked = asked_files c.args.asked.now (ltb 1 (length files)) (g.Y.System.may_fail_at c.args.system.now) held in
    let old = state_of g.W.Write.contents c.args.out.now (g.Y.System.reports c.args.system.now) (g.Y.System.hints c.args.system.now) in
    let mid = state_of g.W.Write.contents c.loop-argument.out (g.Y.System.reports c.loop-argument.system) (g.Y.System.hints c.loop-argument.system) in
    let new = state_of g.W.Write.contents c.show_file.new.out (g.Y.System.reports c.show_file.new.system) (g.Y.System.hints c.show_file.new.system) in
    let e = c.in_err-shown.field-0.0 in
    let one = one_at asked bytes (g.Y.System.bytes_at c.loop-argument.system) (g.Y.System.may_fail_at c.loop-argument.system) (argument_view (get_or files i d)) mid new (Err e)
    c.loop-argument.invariant.bytes c.loop-argument.invariant.may_fail (held_there files i d c.loop-argument-test.true bytes held are) c.in_err-shown.ensures.shows in
    passed_on asked (views files) old new e c.from_residual.result c.from_residual.ensures.1
    (ends asked files i d c.loop-argument-test.true old mid new c.loop-argument.all (c.loop-argument.invariant.shows held are) e one)

pub returns : goal.returns
returns g c = λ held are.
    let files = c.args.files.now in
    subst (λ (fs : List Argument). Shows (asked_files c.args.asked.now (ltb 1 (length files)) (g.Y.System.may_fail_at c.args.system.now) held) (views fs) (state_of g.W.Write.contents c.args.out.now (g.Y.System.reports c.args.system.now) (g.Y.System.hints c.args.system.now))
    (state_of g.W.Write.contents c.loop-argument.out (g.Y.System.reports c.loop-argument.system) (g.Y.System.hints c.loop-argument.system)) c.loop-argument.all)
    (take_all c.loop-argument.argument-index files c.loop-argument-test.false) (c.loop-argument.invariant.shows held are)

pub loop-argument-preserved : goal.loop-argument-preserved
loop-argument-preserved g c = record {
  shows = λ held are.
      let files = c.args.files.now in
      let i = c.loop-argument.argument-index in
      let d : Argument = Text (record { ref_ptr = (0, 0); now = [] }) in
      let bytes = g.Y.System.bytes_at c.args.system.now in
      let asked = asked_files c.args.asked.now (ltb 1 (length files)) (g.Y.System.may_fail_at c.args.system.now) held in
      let old = state_of g.W.Write.contents c.args.out.now (g.Y.System.reports c.args.system.now) (g.Y.System.hints c.args.system.now) in
      let mid = state_of g.W.Write.contents c.loop-argument.out (g.Y.System.reports c.loop-argument.system) (g.Y.System.hints c.loop-argument.system) in
      let new = state_of g.W.Write.contents c.show_file.new.out (g.Y.System.reports c.show_file.new.system) (g.Y.System.hints c.show_file.new.system) in
      let this = c.in_ok-shown.shown in
      let one = one_at asked bytes (g.Y.System.bytes_at c.loop-argument.system) (g.Y.System.may_fail_at c.loop-argument.system) (argument_view (get_or files i d)) mid new (Ok this)
      c.loop-argument.invariant.bytes c.loop-argument.invariant.may_fail (held_there files i d c.loop-argument-test.true bytes held are) c.in_ok-shown.ensures.shows in
      subst (λ (v : Verdict). Shows asked (views (take (i + 1) files)) old new v) (sym c.and_then-all.ensures)
      (goes_on asked files i d c.loop-argument-test.true old mid new c.loop-argument.all (c.loop-argument.invariant.shows held are) this one);
  bytes = c.in_ok-shown.ensures.bytes ∙ c.loop-argument.invariant.bytes;
  may_fail = c.in_ok-shown.ensures.may_fail ∙ c.loop-argument.invariant.may_fail;
}
