use Rattle.std.proofs.Common.{◌*◌, ℕ, List, Option, None, Ok, refl, sym, ap, ◌∙◌}
use Rattle.std.specs.Option.{option_map}
use Rattle.binfarce_pe.specs.PeParts.{places_view}
use Rattle.binfarce_identity.specs.declared.pe.Place as code
use Rattle.binfarce_identity.specs.PeIdentity.{directory_reading, entries_reading, offset_from}
use Rattle.binfarce_identity.specs.machine.Views.{place_view}
use Rattle.binfarce_tables.proofs.ReadingSteps.{done, same}
use Rattle.binfarce_identity.proofs.Steps.{failed_at, taken_at}
use Rattle.binfarce_identity.proofs.pe.read_directory.Goals as goal

pub returns-in_default : goal.returns-in_default
unfolding directory_reading
returns-in_default g c = λ file known.
    same file (ap (λ (p : Option code.Place). directory_reading (places_view c.args.places) (option_map place_view p)) (sym c.in_default.is)) (done file (Ok None) (Ok None) refl)

pub returns-in_err-headers : goal.returns-in_err-headers
unfolding directory_reading
returns-in_err-headers g c = λ file known.
    same file (ap (λ (p : Option code.Place). directory_reading (places_view c.args.places) (option_map place_view p)) (sym c.in-Some.is))
    (failed_at file _ c.from_residual.result refl (ap (λ (n : ℕ). n * 40) c.from.ensures) (c.in_err-headers.ensures.answer file known) (c.in_err-headers.ensures.only file known) c.from_residual.ensures)

pub returns : goal.returns
unfolding directory_reading
returns g c = λ file known.
    let place = place_view c.in-Some.place in
    let headers = c.in_ok-headers.headers.items in
    same file (ap (λ (p : Option code.Place). directory_reading (places_view c.args.places) (option_map place_view p)) (sym c.in-Some.is))
    (taken_at file _ headers refl (ap (λ (n : ℕ). n * 40) c.from.ensures) (c.in_ok-headers.ensures.answer file known) (c.in_ok-headers.ensures.only file known)
    (same file (ap (entries_reading place.size) (c.offset_of-offset.ensures ∙ ap (λ (b : List ℕ). offset_from b place c.args.places.section_count 0) c.deref.ensures.value)) (c.read_entries.ensures file known)))
