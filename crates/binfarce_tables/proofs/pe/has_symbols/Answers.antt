use Rattle.std.proofs.Common.{◌∷◌, [], Bool, Ok}
use Rattle.std.proofs.lemmas.List.Elements.{All-head}
use Rattle.binfarce_tables.specs.PeReads.{pointer_part, header_part}
use Rattle.binfarce_tables.proofs.Sure.{passed_only, unmeasured}
use Rattle.binfarce_pe.specs.Pe.{least_length}
use Rattle.binfarce_pe.specs.PeParts.{places_of, places_view}
use Rattle.binfarce_tables.specs.PeReading.{file_has_symbols, has_symbols}
use Rattle.binfarce_tables.proofs.Readings.{as_long_as, passed}
use Rattle.binfarce_tables.proofs.pe.has_symbols.Goals as goal

pub returns-in_err-opened-clause-only : goal.returns-in_err-opened-clause-only
returns-in_err-opened-clause-only g c = λ file known. unmeasured _ (λ P. All-head P pointer_part (header_part file ∷ [])) c.in_err-opened.ensures.unsure

pub returns-in_err-places-clause-answer : goal.returns-in_err-places-clause-answer
returns-in_err-places-clause-answer g c = λ file known.
    let is_known = c.in_ok-opened.ensures.known file known in
    let fails = g.S.Source.may_fail c.in_ok-opened.opened.source.now in
    let e = c.in_err-places.field-0.0 in
    rw c.in_ok-opened.ensures.source at (passed fails (λ (has : Bool). has) (file_has_symbols file) e c.from_residual-in_err-places.result c.from_residual-in_err-places.ensures
    (as_long_as fails places_view (λ (has : Bool). has) (least_length file) file (places_of file) (Ok (has_symbols file)) e (c.in_err-places.ensures.answer file is_known)))

pub returns-in_err-places-clause-only : goal.returns-in_err-places-clause-only
returns-in_err-places-clause-only g c = λ file known.
    let is_known = c.in_ok-opened.ensures.known file known in
    rw c.in_ok-opened.ensures.source at (passed_only _ (c.in_err-places.ensures.only file is_known) c.from_residual-in_err-places.ensures)

pub returns-clause-only : goal.returns-clause-only
returns-clause-only g c = λ file known.
    let is_known = c.in_ok-opened.ensures.known file known in
    rw c.in_ok-opened.ensures.source at (c.in_ok-places.ensures.only file is_known)
