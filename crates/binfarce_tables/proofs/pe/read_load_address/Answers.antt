use Rattle.std.proofs.Common.{◌∷◌, []}
use Rattle.std.proofs.lemmas.List.Elements.{All-head, All-take}
use Rattle.binfarce_pe.specs.PeParts.{places_view, places_of}
use Rattle.binfarce_tables.specs.PeReads.{pointer_part, header_part, optional_header_part, pe_load_parts}
use Rattle.binfarce_tables.proofs.PeSteps.{load_steps}
use Rattle.binfarce_tables.proofs.PeSure.{base_sure}
use Rattle.binfarce_tables.proofs.Readings.{as_long_as, instead, passed}
use Rattle.binfarce_tables.proofs.Sure.{within, next, unmeasured, passed_only}
use Rattle.std.proofs.Common.{ℕ, Option}
use Rattle.binfarce_pe.specs.Pe.{least_length}
use Rattle.binfarce_pe.specs.PeSelection.{file_load_address, load_address_at}
use Rattle.binfarce_tables.proofs.pe.read_load_address.Goals as goal

pub returns-clause-answer : goal.returns-clause-answer
returns-clause-answer g c = λ file known.
    let is_known = c.in_ok-opened.ensures.known file known in
    let places = places_view c.in_ok-places.places in
    rw c.in_ok-opened.ensures.source at (instead (g.S.Source.may_fail c.in_ok-opened.opened.source.now) (λ address. address) _ _ c.read_base.result (load_steps file places (c.in_ok-places.ensures.answer file is_known)) (c.read_base.ensures.answer file is_known))

pub returns-in_err-opened-clause-only : goal.returns-in_err-opened-clause-only
returns-in_err-opened-clause-only g c = λ file known. unmeasured _ (λ P. All-head P pointer_part (header_part file ∷ optional_header_part (places_of file) ∷ [])) c.in_err-opened.ensures.unsure

pub returns-in_err-places-clause-only : goal.returns-in_err-places-clause-only
returns-in_err-places-clause-only g c = λ file known.
    let is_known = c.in_ok-opened.ensures.known file known in
    rw c.in_ok-opened.ensures.source at (passed_only {parts = pe_load_parts file} _ (within (λ P. All-take P 2 (pe_load_parts file)) (c.in_err-places.ensures.only file is_known)) c.from_residual-in_err-places.ensures)

pub returns-clause-only : goal.returns-clause-only
returns-clause-only g c = λ file known.
    let is_known = c.in_ok-opened.ensures.known file known in
    let step = c.in_ok-places.ensures.answer file is_known in
    rw c.in_ok-opened.ensures.source at (next {parts = pe_load_parts file} (within (λ P. All-take P 2 (pe_load_parts file)) (c.in_ok-places.ensures.only file is_known))
    (within (λ P. base_sure P file (places_view c.in_ok-places.places) step) (c.read_base.ensures.only file is_known)))

pub returns-in_err-places-clause-answer : goal.returns-in_err-places-clause-answer
returns-in_err-places-clause-answer g c = λ file known.
    let is_known = c.in_ok-opened.ensures.known file known in
    let fails = g.S.Source.may_fail c.in_ok-opened.opened.source.now in
    let e = c.in_err-places.field-0.0 in
    rw c.in_ok-opened.ensures.source at (passed fails (λ (address : Option ℕ). address) (file_load_address file) e c.from_residual-in_err-places.result c.from_residual-in_err-places.ensures
    (as_long_as fails places_view (λ (address : Option ℕ). address) (least_length file) file (places_of file) (load_address_at file (places_of file)) e (c.in_err-places.ensures.answer file is_known)))
