use Rattle.std.proofs.Common.{◌≡◌, ℕ, List, refl, ap, ap₂, ◌∙◌}
use Rattle.binfarce_bytes.specs.declared.ByteOrder.TheVariants.{LittleEndian}
use Rattle.binfarce_bytes.specs.Number.{bytes_at, number}
use Rattle.binfarce_pe.specs.Pe.{header_after}
use Rattle.binfarce_pe.specs.PeParts.{places_after, places_view}
use Rattle.binfarce_identity.specs.PeIdentity.{pe_reading, places_reading}
use Rattle.binfarce_tables.proofs.ReadingSteps.{same}
use Rattle.binfarce_identity.proofs.Steps.{failed_at, taken_at}
use Rattle.binfarce_identity.proofs.pe.read_pe.Goals as goal

pub returns-in_err-pointer : goal.returns-in_err-pointer
unfolding pe_reading
returns-in_err-pointer g c = λ file known. failed_at file _ c.from_residual.result refl refl (c.in_err-pointer.ensures.answer file known) (c.in_err-pointer.ensures.only file known) c.from_residual.ensures

pub returns-in_err-headers : goal.returns-in_err-headers
unfolding pe_reading
returns-in_err-headers g c = λ file known.
    let pointer = c.in_ok-pointer.pointer.items in
    let signature : c.from.result ≡ number LittleEndian (bytes_at pointer 0 4) =
    c.from.ensures ∙ c.in_ok-signature.ensures.1 ∙ ap (λ (b : List ℕ). number LittleEndian (bytes_at b 0 4)) c.deref.ensures.value in
    taken_at file _ pointer refl refl (c.in_ok-pointer.ensures.answer file known) (c.in_ok-pointer.ensures.only file known)
    (failed_at file _ c.from_residual-in_err-headers.result signature refl (c.in_err-headers.ensures.answer file known) (c.in_err-headers.ensures.only file known) c.from_residual-in_err-headers.ensures)

pub returns : goal.returns
unfolding pe_reading
returns g c = λ file known.
    let pointer = c.in_ok-pointer.pointer.items in
    let headers = c.in_ok-headers.headers.items in
    let stated : c.in_ok-signature.signature ≡ number LittleEndian (bytes_at pointer 0 4) =
    c.in_ok-signature.ensures.1 ∙ ap (λ (b : List ℕ). number LittleEndian (bytes_at b 0 4)) c.deref.ensures.value in
    let places : places_view c.in_ok-places.places ≡ places_after (number LittleEndian (bytes_at pointer 0 4)) (header_after headers 0) =
    c.in_ok-places.ensures.1 ∙ ap₂ (λ (n : ℕ) (b : List ℕ). places_after n (header_after b 0)) stated c.deref-2.ensures.value in
    taken_at file _ pointer refl refl (c.in_ok-pointer.ensures.answer file known) (c.in_ok-pointer.ensures.only file known)
    (taken_at file _ headers (c.from.ensures ∙ stated) refl (c.in_ok-headers.ensures.answer file known) (c.in_ok-headers.ensures.only file known)
    (same file (ap places_reading places) (c.read_places.ensures file known)))
