use Rattle.std.proofs.Common.{◌≡◌, ◌+◌, ◌*◌, ◌≤◌, ℕ, List, ap, sym, subst, ◌∙◌, arith, length, min, max}
use Rattle.binfarce_bytes.specs.Part.{part}
use Rattle.binfarce_pe.specs.PeParts.{places_view, table_walk}
use Rattle.binfarce_tables.specs.machine.PePlaces.{headers_at}
use Rattle.binfarce_tables.specs.BeginningReading.{pe_sections}
use Rattle.binfarce_tables.proofs.PeBeginning.{sections_held, table_held}
use Rattle.binfarce_tables.proofs.Readings.{taken}
use Rattle.binfarce_tables.proofs.Sure.{only, one, passed_only}
use Rattle.binfarce_tables.proofs.pe.read_beginning.Goals as goal

pub returns-clause-answer : goal.returns-clause-answer
returns-clause-answer g c = λ file known step.
    let places = places_view c.args.places in
    let end : c.min.result ≡ min (max (places.sections + max (places.section_count * 40) 1) 64) (length file) = omega (arith, known.1, c.max.ensures, c.saturating_add.ensures, c.max-end.ensures, c.min.ensures) in
    let there : 0 + c.min.result ≤ length file = omega (arith, end) in
    let read = taken (c.in_ok-bytes.ensures.part file known.0 there) in
    ((c.min.result, read), ap pe_sections read ∙ sections_held file places c.min.result step end, known.1)

pub returns-clause-walk : goal.returns-clause-walk
returns-clause-walk g c = λ file known step.
    let places = places_view c.args.places in
    let end : c.min.result ≡ min (max (places.sections + max (places.section_count * 40) 1) 64) (length file) = omega (arith, known.1, c.max.ensures, c.saturating_add.ensures, c.max-end.ensures, c.min.ensures) in
    let there : 0 + c.min.result ≤ length file = omega (arith, end) in
    let read = taken (c.in_ok-bytes.ensures.part file known.0 there) in
    ap (λ (bytes : List ℕ). table_walk (headers_at bytes places)) read ∙ table_held file places c.min.result step end

pub returns-in_err-bytes-clause-only : goal.returns-in_err-bytes-clause-only
returns-in_err-bytes-clause-only g c = λ file known step.
    let places = places_view c.args.places in
    let end : c.min.result ≡ min (max (places.sections + max (places.section_count * 40) 1) 64) (length file) = omega (arith, known.1, c.max.ensures, c.saturating_add.ensures, c.max-end.ensures, c.min.ensures) in
    passed_only _ (one (λ P all. subst (λ (n : ℕ). P (part 0 n)) (sym end) (only P _ all)) c.in_err-bytes.ensures.only) c.from_residual.ensures

pub returns-clause-only : goal.returns-clause-only
returns-clause-only g c = λ file known step.
    let places = places_view c.args.places in
    let end : c.min.result ≡ min (max (places.sections + max (places.section_count * 40) 1) 64) (length file) = omega (arith, known.1, c.max.ensures, c.saturating_add.ensures, c.max-end.ensures, c.min.ensures) in
    one (λ P all. subst (λ (n : ℕ). P (part 0 n)) (sym end) (only P _ all)) c.in_ok-bytes.ensures.only
