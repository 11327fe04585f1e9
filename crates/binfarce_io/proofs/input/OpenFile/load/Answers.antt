use Rattle.std.proofs.Common.{◌∙◌, subst}
use Rattle.binfarce_io.specs.Input.{HoldsFirst, file_of}
use Rattle.binfarce_io.proofs.Holding.{held_file, more_held, not_at_offsets}
use Rattle.binfarce_io.proofs.Loading.{judged, no_memory_loads, read_loads, unread_loads}
use Rattle.binfarce_io.proofs.input.OpenFile.load.Goals as goal
use Rattle.binfarce_io.proofs.input.OpenFile.load.Goals.{in-Some+else-is_read_at_offsets, in_default}

pub returns-in_err-self-clause-loads : goal.returns-in_err-self-clause-loads
returns-in_err-self-clause-loads g c = λ file known rest.
    no_memory_loads _ _ file _ _ c.from_residual.result c.in_err-self.ensures.failed c.from_residual.ensures.1

pub returns-then-is_read_at_offsets-clause-loads : goal.returns-then-is_read_at_offsets-clause-loads
returns-then-is_read_at_offsets-clause-loads g c = λ file known rest.
    let may_fail = g.F.Source.may_fail (file_of c.args.self.now) in
    let maybe = c.in_ok-self.field-0 in
    let first = c.in_ok-self.ensures.held file known in
    let held_first = subst (HoldsFirst may_fail file) c.in-Some.is first in
    let all = held_file may_fail _ maybe c.in-Some.held file known c.in-Some.is first in
    judged may_fail _ file c.deref.result.now _ c.refuse_foreign.result all (c.deref.ensures.value ∙ held_first.0) (more_held may_fail maybe) c.refuse_foreign.ensures

pub returns-in_err-bytes-clause-loads : goal.returns-in_err-bytes-clause-loads
returns-in_err-bytes-clause-loads g c = λ file known rest.
    let may_fail = g.F.Source.may_fail (file_of c.args.self.now) in
    let maybe = c.in_ok-self.field-0 in
    let first = c.in_ok-self.ensures.held file known in
    let why = not_at_offsets may_fail _ maybe file known first (elim c.match-self.branch [
      | in-Some+else-is_read_at_offsets w ↦ λ held some. w.is_read_at_offsets.ensures.no w.if-is_read_at_offsets.false
      | in_default w ↦ λ held some. absurd (w.in_default.not-Some held some)
    ]) in
    unread_loads may_fail _ file _ _ _ c.in_err-bytes.field-0.0 c.from_residual-in_err-bytes.result why rest c.in_err-bytes.ensures.judged
    c.from_residual-in_err-bytes.ensures.1

pub returns-clause-loads : goal.returns-clause-loads
returns-clause-loads g c = λ file known rest.
    read_loads (g.F.Source.may_fail (file_of c.args.self.now)) _ file _ _ _ c.in_ok-bytes.bytes c.len-file_length.result rest c.in_ok-bytes.ensures.judged
    (c.len-file_length.ensures ∙ c.in_ok-bytes.bytes.ok.0)
