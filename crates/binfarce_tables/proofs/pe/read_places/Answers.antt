use Rattle.std.proofs.Common.{◌≡◌, ◌+◌, ◌≤◌, ◌∷◌, [], ℕ, Bool, Vec, Global, Result, Ok, Err, cond, ltb, ap, ◌∙◌, arith, length}
use Rattle.std.proofs.lemmas.List.Elements.{All-head}
use Rattle.binfarce_bytes.specs.Number.{bytes_at}
use Rattle.binfarce_pe.specs.PeParts.{TablePlaces, places_of, places_view}
use Rattle.binfarce_tables.specs.PeReads.{pointer_part, header_part}
use Rattle.binfarce_tables.proofs.Contents.{part_long}
use Rattle.binfarce_tables.proofs.PeSteps.{header_past, places_are}
use Rattle.binfarce_tables.proofs.PeSure.{header_sure}
use Rattle.binfarce_tables.proofs.Readings.{as_long_as, held, instead, passed}
use Rattle.binfarce_tables.proofs.Sure.{in_any, one, next, passed_only, within}
use Rattle.binfarce_bytes.specs.Refusal.{Refusal, if_as_long_as, unexpected_eof}
use Rattle.binfarce_tables.specs.machine.PePlaces.{places_step}
use Rattle.binfarce_tables.proofs.pe.read_places.Goals as goal

pub returns-in_err-places_in-clause-answer : goal.returns-in_err-places_in-clause-answer
returns-in_err-places_in-clause-answer g c = λ file known.
    let signature = c.in_ok-signature.signature in
    let inside : signature + 24 ≤ length file = omega (arith, known.1, c.in_ok-headers.ensures.lies) in
    let bytes : c.deref.result.now ≡ bytes_at file signature 24 = c.deref.ensures.value ∙ held (signature + 24) file _ _ (c.in_ok-headers.ensures.answer file known) in
    let long : length c.deref.result.now ≡ 24 = ap length bytes ∙ part_long file signature 24 inside in
    absurd (omega (arith, long, c.in_err-places_in.ensures.0))

pub returns-clause-answer : goal.returns-clause-answer
returns-clause-answer g c = λ file known.
    let signature = c.in_ok-signature.signature in
    let inside : signature + 24 ≤ length file = omega (arith, known.1, c.in_ok-headers.ensures.lies) in
    let bytes : c.deref.result.now ≡ bytes_at file signature 24 = c.deref.ensures.value ∙ held (signature + 24) file _ _ (c.in_ok-headers.ensures.answer file known) in
    places_are file c.deref.result.now signature (places_view c.in_ok-places_in.field-0) (c.in_ok-signature.ensures.answer file known) inside bytes c.in_ok-places_in.ensures.1

pub returns-in_err-signature-clause-only : goal.returns-in_err-signature-clause-only
returns-in_err-signature-clause-only g c = λ file known.
    passed_only _ (one (λ P. All-head P pointer_part (header_part file ∷ [])) (c.in_err-signature.ensures.only file known)) c.from_residual.ensures

pub returns-in_err-headers-clause-only : goal.returns-in_err-headers-clause-only
returns-in_err-headers-clause-only g c = λ file known.
    let step = c.in_ok-signature.ensures.answer file known in
    passed_only _ (next (one (λ P. All-head P pointer_part (header_part file ∷ [])) (c.in_ok-signature.ensures.only file known))
    (within (λ P all. in_any P file c.in_ok-signature.signature 24 (header_sure P file c.in_ok-signature.signature step all)) (c.in_err-headers.ensures.only file known))) c.from_residual-in_err-headers.ensures

pub returns-clause-only : goal.returns-clause-only
returns-clause-only g c = λ file known.
    let step = c.in_ok-signature.ensures.answer file known in
    next (one (λ P. All-head P pointer_part (header_part file ∷ [])) (c.in_ok-signature.ensures.only file known))
    (within (λ P all. in_any P file c.in_ok-signature.signature 24 (header_sure P file c.in_ok-signature.signature step all)) (c.in_ok-headers.ensures.only file known))

pub returns-in_err-headers-clause-answer : goal.returns-in_err-headers-clause-answer
returns-in_err-headers-clause-answer g c = λ file known.
    let fails = g.S.Source.may_fail c.args.opened.now.source.now in
    let signature = c.in_ok-signature.signature in
    let e = c.in_err-headers.field-0.0 in
    let answer : Bool → Result TablePlaces Refusal = λ short. cond short (Err unexpected_eof) (Ok (places_of file)) in
    let same : places_step file ≡ answer (ltb (length file) (signature + 24)) = ap answer (header_past file signature (c.in_ok-signature.ensures.answer file known)) in
    passed fails places_view (places_step file) e c.from_residual-in_err-headers.result c.from_residual-in_err-headers.ensures
    (instead fails places_view (places_step file) (if_as_long_as (signature + 24) file (Ok (places_of file))) (Err e) same
    (as_long_as fails (λ (v : Vec ℕ Global). v.items) places_view (signature + 24) file (bytes_at file signature 24) (Ok (places_of file)) e (c.in_err-headers.ensures.answer file known)))
