use Rattle.std.proofs.Common.{Err, refl, sym, ap, ◌∙◌}
use Rattle.binfarce_bytes.specs.Refusal.{malformed_input}
use Rattle.binfarce_identity.specs.PeIdentity.{codeview_data, entries_reading, record_reading}
use Rattle.binfarce_tables.proofs.ReadingSteps.{done, same}
use Rattle.binfarce_identity.proofs.Steps.{failed_at, taken_at}
use Rattle.binfarce_identity.proofs.pe.read_entries.Goals as goal

pub returns-in_default : goal.returns-in_default
returns-in_default g c = λ file known. same file (ap (entries_reading c.args.size) (sym c.in_default.is)) (done file (Err malformed_input) _ refl)

pub returns-in_err-entries : goal.returns-in_err-entries
returns-in_err-entries g c = λ file known.
    same file (ap (entries_reading c.args.size) (sym c.in-Some.is))
    (failed_at file _ c.from_residual.result refl c.from.ensures (c.in_err-entries.ensures.answer file known) (c.in_err-entries.ensures.only file known) c.from_residual.ensures)

pub returns : goal.returns
returns g c = λ file known.
    let entries = c.in_ok-entries.entries.items in
    same file (ap (entries_reading c.args.size) (sym c.in-Some.is))
    (taken_at file _ entries refl c.from.ensures (c.in_ok-entries.ensures.answer file known) (c.in_ok-entries.ensures.only file known)
    (same file (ap record_reading (c.codeview_data.ensures ∙ ap codeview_data c.deref.ensures.value)) (c.read_record.ensures file known)))
