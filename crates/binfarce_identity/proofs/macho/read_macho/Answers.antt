use Rattle.std.proofs.Common.{◌≡◌, ◌+◌, ℕ, List, refl, ap, ◌∙◌, rules}
use Rattle.binfarce_bytes.specs.declared.ByteOrder.TheVariants.{LittleEndian}
use Rattle.binfarce_bytes.specs.Number.{bytes_at, number}
use Rattle.binfarce_macho.specs.Macho.{header_fields, header_of}
use Rattle.binfarce_identity.specs.MachoIdentity.{macho_reading, uuid_of}
use Rattle.binfarce_tables.specs.Readings.{answered}
use Rattle.binfarce_tables.proofs.ReadingSteps.{done, same}
use Rattle.binfarce_identity.proofs.Steps.{failed_at, taken_at}
use Rattle.binfarce_identity.proofs.macho.read_macho.Goals as goal

-- what the header states, by its bytes
stated : (head bytes : List ℕ) (n size : ℕ) → bytes ≡ head → n ≡ size → size ≡ number LittleEndian (bytes_at bytes 20 4) → 32 + n ≡ 32 + (header_of head).sizeofcmds
unfolding header_fields header_of
stated head bytes n size same is read = ap (λ (m : ℕ). 32 + m) (is ∙ read ∙ ap (λ (b : List ℕ). number LittleEndian (bytes_at b 20 4)) same)

pub returns-in_err-head : goal.returns-in_err-head
unfolding macho_reading
returns-in_err-head g c = λ file known. failed_at file _ c.from_residual.result refl refl (c.in_err-head.ensures.answer file known) (c.in_err-head.ensures.only file known) c.from_residual.ensures

pub returns-in_err-bytes : goal.returns-in_err-bytes
unfolding macho_reading
returns-in_err-bytes g c = λ file known.
    let head = c.in_ok-head.head.items in
    let read : c.unwrap-size.result ≡ number LittleEndian (bytes_at c.deref.result.now 20 4) = search rules in
    let size = stated head c.deref.result.now c.from.result c.unwrap-size.result c.deref.ensures.value c.from.ensures read in
    taken_at file _ head refl refl (c.in_ok-head.ensures.answer file known) (c.in_ok-head.ensures.only file known)
    (failed_at file _ c.from_residual-in_err-bytes.result refl size (c.in_err-bytes.ensures.answer file known) (c.in_err-bytes.ensures.only file known) c.from_residual-in_err-bytes.ensures)

pub returns : goal.returns
unfolding macho_reading
returns g c = λ file known.
    let head = c.in_ok-head.head.items in
    let bytes = c.in_ok-bytes.bytes.items in
    let read : c.unwrap-size.result ≡ number LittleEndian (bytes_at c.deref.result.now 20 4) = search rules in
    let size = stated head c.deref.result.now c.from.result c.unwrap-size.result c.deref.ensures.value c.from.ensures read in
    taken_at file _ head refl refl (c.in_ok-head.ensures.answer file known) (c.in_ok-head.ensures.only file known)
    (taken_at file _ bytes refl size (c.in_ok-bytes.ensures.answer file known) (c.in_ok-bytes.ensures.only file known)
    (same file (ap (λ (b : List ℕ). answered (uuid_of b)) c.deref-2.ensures.value) (done file _ c.identity_in.result c.identity_in.ensures)))
