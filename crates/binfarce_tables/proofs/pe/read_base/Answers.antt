use Rattle.std.proofs.Common.{◌≡◌, ◌+◌, ◌≤◌, ℕ, Vec, Global, Option, Ok, ap, sym, ◌∙◌, arith, length}
use Rattle.std.proofs.lemmas.Bool.{le-ltb}
use Rattle.binfarce_bytes.specs.Number.{bytes_at}
use Rattle.binfarce_pe.specs.Pe.{image_base}
use Rattle.binfarce_pe.specs.PeParts.{places_view}
use Rattle.binfarce_pe.specs.PeSelection.{load_address_at}
use Rattle.binfarce_tables.proofs.Readings.{as_long_as, held, passed}
use Rattle.binfarce_tables.proofs.Sure.{in_any, only, passed_only, within}
use Rattle.binfarce_tables.proofs.pe.read_base.Goals as goal

pub returns-clause-answer : goal.returns-clause-answer
unfolding load_address_at
returns-clause-answer g c = λ file known.
    let places = places_view c.args.places in
    let inside : places.optional_header + places.optional_header_size ≤ length file = omega (arith, known.1, c.in_ok-header.ensures.lies) in
    let bytes : c.deref.result.now ≡ bytes_at file places.optional_header places.optional_header_size = c.deref.ensures.value ∙ held _ file _ _ (c.in_ok-header.ensures.answer file known) in
    rw (le-ltb (length file) (places.optional_header + places.optional_header_size) inside) (ap (λ (a : Option ℕ). Ok a) (ap image_base (sym bytes) ∙ sym c.image_base.ensures))

pub returns-in_err-header-clause-answer : goal.returns-in_err-header-clause-answer
unfolding load_address_at
returns-in_err-header-clause-answer g c = λ file known.
    let fails = g.S.Source.may_fail c.args.opened.now.source.now in
    let places = places_view c.args.places in
    let e = c.in_err-header.field-0.0 in
    passed fails (λ (address : Option ℕ). address) _ e c.from_residual.result c.from_residual.ensures
    (as_long_as fails (λ (v : Vec ℕ Global). v.items) (λ (address : Option ℕ). address) (places.optional_header + places.optional_header_size) file (bytes_at file places.optional_header places.optional_header_size) _ e (c.in_err-header.ensures.answer file known))

pub returns-in_err-header-clause-only : goal.returns-in_err-header-clause-only
returns-in_err-header-clause-only g c = λ file known.
    let places = places_view c.args.places in
    passed_only _ (within (λ P all. in_any P file places.optional_header places.optional_header_size (only P _ all)) (c.in_err-header.ensures.only file known)) c.from_residual.ensures

pub returns-clause-only : goal.returns-clause-only
returns-clause-only g c = λ file known.
    let places = places_view c.args.places in
    within (λ P all. in_any P file places.optional_header places.optional_header_size (only P _ all)) (c.in_ok-header.ensures.only file known)
