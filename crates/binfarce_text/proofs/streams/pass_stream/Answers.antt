use Rattle.std.proofs.Common.{◌++◌, ℕ, List, ◌∙◌, ap}
use Rattle.binfarce_text.proofs.Passing.{memory_is_not_read, none_broken, nothing_passed, rest_broken, streams_broken, write_is_not_read}
use Rattle.binfarce_text.proofs.streams.pass_stream.Goals as goal

pub returns-in_err-chunk-clause-streams : goal.returns-in_err-chunk-clause-streams
returns-in_err-chunk-clause-streams g c =
    streams_broken _ _ _ _ _ _ _ _ c.from_residual.result memory_is_not_read c.from_residual.ensures.1 (nothing_passed (g.P.Pass.MayBreakOff c.args.pass.now) _ _ c.requires.breaks_off)

pub returns-in_err-end-clause-streams : goal.returns-in_err-end-clause-streams
returns-in_err-end-clause-streams g c =
    streams_broken _ _ _ _ _ _ _ _ c.from_residual-in_err-end.result memory_is_not_read c.from_residual-in_err-end.ensures.1
    (none_broken g.P.Pass.Holds g.P.Pass.MayBreakOff c.end.ensures.breaks_off c.args.pass.now c.pass_all.new.pass _ _ _ _ c.in_ok-ended.ensures.passes.1)

pub returns-in_err-write-clause-streams : goal.returns-in_err-write-clause-streams
returns-in_err-write-clause-streams g c =
    let more = c.in_ok-end.ensures.makes in
    let writes = c.in_err-write.ensures.writes in
    streams_broken _ _ _ _ _ _ _ _ c.from_residual-in_err-write.result (write_is_not_read _ writes.0) c.from_residual-in_err-write.ensures.1
    (rest_broken g.P.Pass.Holds g.P.Pass.IsDone g.P.Pass.MayBreakOff c.end.ensures.done c.args.pass.now c.pass_all.new.pass c.end.new.self c.in_ok-ended.ended c.as_slice.result.now more.0 writes.1.0 writes.1.1 _ _ _ _ _
    c.in_ok-ended.ensures.passes.1 more.1 (c.as_slice.ensures.value ∙ more.2 ∙ ap (λ (x : List ℕ). x ++ more.0) c.clear.ensures.items) writes.1.2 writes.1.3)
