use Rattle.std.proofs.Common.{List, ℕ, Option, None, Ok, refl, sym, ap}
use Rattle.std.specs.Option.{option_map}
use Rattle.binfarce_identity.specs.declared.elf.NotePlace.{NotePlace}
use Rattle.binfarce_identity.specs.ElfIdentity.{as_identity, place_reading}
use Rattle.binfarce_identity.specs.Notes.{build_id}
use Rattle.binfarce_tables.specs.Readings.{answered}
use Rattle.binfarce_identity.specs.machine.Views.{note_place_view}
use Rattle.binfarce_tables.proofs.ReadingSteps.{done, same}
use Rattle.binfarce_identity.proofs.Steps.{failed_at, taken_at}
use Rattle.binfarce_identity.proofs.elf.read_place.Goals as goal

pub returns-in_default : goal.returns-in_default
returns-in_default g c = λ file known.
    same file (ap (λ (p : Option NotePlace). place_reading c.args.byte_order (option_map note_place_view p)) (sym c.in_default.is)) (done file (Ok None) (Ok None) refl)

pub returns-in_err-notes : goal.returns-in_err-notes
returns-in_err-notes g c = λ file known.
    same file (ap (λ (p : Option NotePlace). place_reading c.args.byte_order (option_map note_place_view p)) (sym c.in-Some.is))
    (failed_at file _ c.from_residual.result refl refl (c.in_err-notes.ensures.answer file known) (c.in_err-notes.ensures.only file known) c.from_residual.ensures)

pub returns : goal.returns
returns g c = λ file known.
    let order = c.args.byte_order in
    let place = c.in-Some.place in
    let notes = c.in_ok-notes.notes.items in
    same file (ap (λ (p : Option NotePlace). place_reading order (option_map note_place_view p)) (sym c.in-Some.is))
    (taken_at file _ notes refl refl (c.in_ok-notes.ensures.answer file known) (c.in_ok-notes.ensures.only file known)
    (same file (ap (λ (b : List ℕ). answered (as_identity (build_id order place.align b))) c.deref.ensures.value) (done file _ c.identity_in.result c.identity_in.ensures)))
