use Rattle.std.proofs.Common.{◌≡◌, true}
use Rattle.binfarce_jobs.proofs.FileFates.{broke_off, show_failed, was_shown}
use Rattle.binfarce_jobs.proofs.files.show_source.Goals as goal

pub returns-in_err-seen : goal.returns-in_err-seen
returns-in_err-seen g c = λ file is.
    show_failed g.W.Write.contents c.args.asked.now c.args.path.now (g.S.Source.may_fail c.args.source.now ≡ true) file c.args.out.now c.show.new.out c.in_err-seen.field-0.0 c.from_residual.result c.from_residual.ensures.1
    (c.in_err-seen.ensures.outcome file is) (c.in_err-seen.ensures.takes file is) c.in_err-seen.ensures.leaves

pub returns-in_err-end : goal.returns-in_err-end
returns-in_err-end g c = λ file is.
    broke_off g.W.Write.contents c.args.asked.now c.args.path.now (g.S.Source.may_fail c.args.source.now ≡ true) file c.args.out.now c.show.new.out c.end.new.self c.in_err-end.field-0.0 c.from_residual-in_err-end.result c.from_residual-in_err-end.ensures.1
    (c.in_ok-seen.ensures.takes file is) c.end.ensures.kept c.in_err-end.ensures.fails.0

pub returns : goal.returns
returns g c = λ file is.
    was_shown g.W.Write.contents c.args.asked.now c.args.path.now (g.S.Source.may_fail c.args.source.now ≡ true) file c.args.out.now c.show.new.out c.end.new.self c.in_ok-seen.seen
    (c.in_ok-seen.ensures.takes file is) c.end.ensures.kept c.in_ok-end.ensures.written.0 (λ selected answer. c.in_ok-seen.ensures.seen file selected is answer)
