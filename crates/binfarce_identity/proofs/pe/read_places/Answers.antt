use Rattle.std.proofs.Common.{◌≡◌, ◌-◌, min, refl, ap, ◌∙◌, arith}
use Rattle.binfarce_pe.specs.PeParts.{places_view}
use Rattle.binfarce_identity.specs.PeIdentity.{debug_directory, directory_reading, places_reading}
use Rattle.binfarce_tables.proofs.ReadingSteps.{same}
use Rattle.binfarce_identity.proofs.Steps.{failed_at, taken_at}
use Rattle.binfarce_identity.proofs.pe.read_places.Goals as goal

pub returns-in_err-header : goal.returns-in_err-header
unfolding places_reading
returns-in_err-header g c = λ file known.
    let size : c.min-size.result ≡ min (c.args.places.sections - c.args.places.optional_header) 168 = omega (arith, c.min-size.ensures, c.saturating_sub-size.ensures) in
    failed_at file _ c.from_residual.result refl size (c.in_err-header.ensures.answer file known) (c.in_err-header.ensures.only file known) c.from_residual.ensures

pub returns : goal.returns
unfolding places_reading
returns g c = λ file known.
    let header = c.in_ok-header.header.items in
    let size : c.min-size.result ≡ min (c.args.places.sections - c.args.places.optional_header) 168 = omega (arith, c.min-size.ensures, c.saturating_sub-size.ensures) in
    taken_at file _ header refl size (c.in_ok-header.ensures.answer file known) (c.in_ok-header.ensures.only file known)
    (same file (ap (directory_reading (places_view c.args.places)) (c.debug_directory-directory.ensures ∙ ap debug_directory c.deref.ensures.value)) (c.read_directory.ensures file known))
