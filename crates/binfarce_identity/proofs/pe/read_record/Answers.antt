use Rattle.std.proofs.Common.{◌≡◌, ◌<◌, ◌≤◌, ℕ, List, Option, Some, None, Ok, Err, refl, sym, ap, ◌∙◌}
use Rattle.std.proofs.lemmas.Bool.{lt-ltb, le-ltb}
use Rattle.std.specs.Option.{option_map}
use Rattle.binfarce_bytes.specs.Refusal.{malformed_input}
use Rattle.binfarce_identity.specs.declared.pe.Place as code
use Rattle.binfarce_identity.specs.PeIdentity.{codeview_in, record_reading}
use Rattle.binfarce_tables.specs.Readings.{answered, with_part}
use Rattle.binfarce_identity.specs.machine.Views.{place_view}
use Rattle.binfarce_tables.proofs.ReadingSteps.{done, same}
use Rattle.binfarce_identity.proofs.Steps.{failed_at, taken_at}
use Rattle.binfarce_identity.proofs.pe.read_record.Goals as goal

too_short : (p : code.Place) → p.size < 24 → answered (Err malformed_input) ≡ record_reading (Some (place_view p))
too_short p lt = rw (lt-ltb p.size 24 lt) refl

long_enough : (p : code.Place) → 24 ≤ p.size → with_part p.at 24 (λ bytes. answered (codeview_in bytes)) ≡ record_reading (Some (place_view p))
long_enough p le = rw (le-ltb p.size 24 le) refl

pub returns-in_default : goal.returns-in_default
returns-in_default g c = λ file known. same file (ap (λ (p : Option code.Place). record_reading (option_map place_view p)) (sym c.in_default.is)) (done file (Ok None) (Ok None) refl)

pub returns-then-place-lt-RECORD_LENGTH : goal.returns-then-place-lt-RECORD_LENGTH
returns-then-place-lt-RECORD_LENGTH g c = λ file known.
    same file (too_short c.in-Some.place c.if-place-lt-RECORD_LENGTH.true ∙ ap (λ (p : Option code.Place). record_reading (option_map place_view p)) (sym c.in-Some.is)) (done file (Err malformed_input) _ refl)

pub returns-in_err-bytes : goal.returns-in_err-bytes
returns-in_err-bytes g c = λ file known.
    same file (long_enough c.in-Some.place c.if-place-lt-RECORD_LENGTH.false ∙ ap (λ (p : Option code.Place). record_reading (option_map place_view p)) (sym c.in-Some.is))
    (failed_at file _ c.from_residual.result c.from.ensures c.from-2.ensures (c.in_err-bytes.ensures.answer file known) (c.in_err-bytes.ensures.only file known) c.from_residual.ensures)

pub returns : goal.returns
returns g c = λ file known.
    let bytes = c.in_ok-bytes.bytes.items in
    same file (long_enough c.in-Some.place c.if-place-lt-RECORD_LENGTH.false ∙ ap (λ (p : Option code.Place). record_reading (option_map place_view p)) (sym c.in-Some.is))
    (taken_at file _ bytes c.from.ensures c.from-2.ensures (c.in_ok-bytes.ensures.answer file known) (c.in_ok-bytes.ensures.only file known)
    (same file (ap (λ (b : List ℕ). answered (codeview_in b)) c.deref.ensures.value) (done file _ c.codeview_in.result c.codeview_in.ensures)))
