use Rattle.std.proofs.Common.{[], ◌∷◌}
use Rattle.std.proofs.lemmas.List.Elements.{All-head, All-tail}
use Rattle.binfarce_pe.specs.PeParts.{places_view}
use Rattle.binfarce_tables.specs.PeReads.{headers_part, optional_header_part}
use Rattle.binfarce_tables.proofs.Sure.{within, one, next, ending, passed_only, converted_surely}
use Rattle.binfarce_tables.proofs.pe.read_selected.Goals as goal

pub returns-in_err-headers-clause-only : goal.returns-in_err-headers-clause-only
returns-in_err-headers-clause-only g c = λ file known step.
    let places = places_view c.args.places in
    passed_only _ (one (λ P. All-head P (headers_part file places) (optional_header_part places ∷ [])) (c.in_err-headers.ensures.only file known)) c.from_residual.ensures

pub returns-in_err-header-clause-only : goal.returns-in_err-header-clause-only
returns-in_err-header-clause-only g c = λ file known step.
    let places = places_view c.args.places in
    passed_only _ (next (one (λ P. All-head P (headers_part file places) (optional_header_part places ∷ [])) (c.in_ok-headers.ensures.only file known))
    (within (λ P. All-tail P (headers_part file places) (optional_header_part places ∷ [])) c.in_err-header.ensures.only)) c.from_residual-in_err-header.ensures

pub returns-clause-only : goal.returns-clause-only
returns-clause-only g c = λ file known step.
    let places = places_view c.args.places in
    next (one (λ P. All-head P (headers_part file places) (optional_header_part places ∷ [])) (c.in_ok-headers.ensures.only file known))
    (within (λ P. All-tail P (headers_part file places) (optional_header_part places ∷ [])) c.in_ok-header.ensures.only)

pub returns-in_err-code-clause-only : goal.returns-in_err-code-clause-only
returns-in_err-code-clause-only g c = λ file known step.
    let places = places_view c.args.places in
    ending (one (λ P. All-head P (headers_part file places) (optional_header_part places ∷ [])) (c.in_ok-headers.ensures.only file known))
    (converted_surely c.in_err-code.field-0.0 c.from_residual-in_err-code.result c.from_residual-in_err-code.ensures)
