use Rattle.std.proofs.Common.{◌∙◌, ◌+◌, suc, List, [], Err, Ok, length, ltb, get_or, drop, refl, ap, subst, sym, take}
use Rattle.std.proofs.lemmas.List.{take_all}
use Rattle.binfarce_words.specs.Words as words
use Rattle.binfarce_words.specs.WordViews.{argument_view}
use Rattle.binfarce_words.specs.declared.argument.Argument.{Argument}
use Rattle.binfarce_words.specs.declared.argument.Argument.TheVariants.{Text}
use Rattle.binfarce_jobs.specs.Files.{asked_files, state_of}
use Rattle.binfarce_jobs.specs.Limit.{and_then}
use Rattle.binfarce_jobs.specs.declared.limit.Verdict.{Verdict}
use Rattle.binfarce_jobs.proofs.FileLoop.{held_there, views, views_more, views_split}
use Rattle.binfarce_calls.specs.Sections.{InTurn, SumsArgument}
use Rattle.binfarce_calls.proofs.InTurn.{ends, one_more}
use Rattle.binfarce_calls.proofs.SumSteps.{one_at, passed_on}
use Rattle.binfarce_calls.proofs.sections.sum_files.Goals as goal

pub loop-argument-init : goal.loop-argument-init
loop-argument-init g c = record {
  sums = λ held are. (refl, ap Ok c.done-all.ensures);
  bytes = refl;
  may_fail = refl;
}

pub returns-in_err-summed : goal.returns-in_err-summed
returns-in_err-summed g c = λ held are.
    let files = c.args.files.now in
    let i = c.loop-argument.argument-index in
    let d : Argument = Text (record { ref_ptr = (0, 0); now = [] }) in
    let bytes = g.Y.System.bytes_at c.args.system.now in
    let asked = asked_files c.args.asked.now (ltb 1 (length files)) (g.Y.System.may_fail_at c.args.system.now) held in
    let old = state_of g.W.Write.contents c.args.out.now (g.Y.System.reports c.args.system.now) (g.Y.System.hints c.args.system.now) in
    let mid = state_of g.W.Write.contents c.loop-argument.out (g.Y.System.reports c.loop-argument.system) (g.Y.System.hints c.loop-argument.system) in
    let new = state_of g.W.Write.contents c.sum_argument.new.out (g.Y.System.reports c.sum_argument.new.system) (g.Y.System.hints c.sum_argument.new.system) in
    let e = c.in_err-summed.field-0.0 in
    let argument = argument_view (get_or files i d) in
    let one = one_at c.args.first asked bytes (g.Y.System.bytes_at c.loop-argument.system) (g.Y.System.may_fail_at c.loop-argument.system) argument mid new (Err e)
    c.loop-argument.invariant.bytes c.loop-argument.invariant.may_fail (held_there files i d c.loop-argument-test.true bytes held are) c.in_err-summed.ensures.sums in
    passed_on c.args.first asked (views files) old new e c.from_residual.result c.from_residual.ensures.1
    (subst (λ (arguments : List words.Argument). InTurn (SumsArgument c.args.first asked) arguments old new (Err e)) (sym (views_split files i d c.loop-argument-test.true))
    (ends (SumsArgument c.args.first asked) (views (take i files)) argument (views (drop (suc i) files)) old mid new c.loop-argument.all e (c.loop-argument.invariant.sums held are) one))

pub returns : goal.returns
returns g c = λ held are.
    let files = c.args.files.now in
    let asked = asked_files c.args.asked.now (ltb 1 (length files)) (g.Y.System.may_fail_at c.args.system.now) held in
    let old = state_of g.W.Write.contents c.args.out.now (g.Y.System.reports c.args.system.now) (g.Y.System.hints c.args.system.now) in
    let new = state_of g.W.Write.contents c.loop-argument.out (g.Y.System.reports c.loop-argument.system) (g.Y.System.hints c.loop-argument.system) in
    subst (λ (fs : List (Argument)). InTurn (SumsArgument c.args.first asked) (views fs) old new (Ok c.loop-argument.all)) (take_all c.loop-argument.argument-index files c.loop-argument-test.false) (c.loop-argument.invariant.sums held are)

pub loop-argument-preserved : goal.loop-argument-preserved
loop-argument-preserved g c = record {
  sums = λ held are.
      let files = c.args.files.now in
      let i = c.loop-argument.argument-index in
      let d : Argument = Text (record { ref_ptr = (0, 0); now = [] }) in
      let bytes = g.Y.System.bytes_at c.args.system.now in
      let asked = asked_files c.args.asked.now (ltb 1 (length files)) (g.Y.System.may_fail_at c.args.system.now) held in
      let old = state_of g.W.Write.contents c.args.out.now (g.Y.System.reports c.args.system.now) (g.Y.System.hints c.args.system.now) in
      let mid = state_of g.W.Write.contents c.loop-argument.out (g.Y.System.reports c.loop-argument.system) (g.Y.System.hints c.loop-argument.system) in
      let new = state_of g.W.Write.contents c.sum_argument.new.out (g.Y.System.reports c.sum_argument.new.system) (g.Y.System.hints c.sum_argument.new.system) in
      let this = c.in_ok-summed.summed in
      let argument = argument_view (get_or files i d) in
      let one = one_at c.args.first asked bytes (g.Y.System.bytes_at c.loop-argument.system) (g.Y.System.may_fail_at c.loop-argument.system) argument mid new (Ok this)
      c.loop-argument.invariant.bytes c.loop-argument.invariant.may_fail (held_there files i d c.loop-argument-test.true bytes held are) c.in_ok-summed.ensures.sums in
      subst (λ (v : Verdict). InTurn (SumsArgument c.args.first asked) (views (take (i + 1) files)) old new (Ok v)) (sym c.and_then-all.ensures)
      (subst (λ (arguments : List words.Argument). InTurn (SumsArgument c.args.first asked) arguments old new (Ok (and_then c.loop-argument.all this))) (sym (views_more files i d c.loop-argument-test.true))
      (one_more (SumsArgument c.args.first asked) (views (take i files)) argument old mid new c.loop-argument.all this (c.loop-argument.invariant.sums held are) one));
  bytes = c.in_ok-summed.ensures.bytes ∙ c.loop-argument.invariant.bytes;
  may_fail = c.in_ok-summed.ensures.may_fail ∙ c.loop-argument.invariant.may_fail;
}
