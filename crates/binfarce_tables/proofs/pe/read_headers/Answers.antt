use Rattle.std.proofs.Common.{◌≡◌, ◌-◌, ◌*◌, ◌<◌, ◌≤◌, arith, length, min}
use Rattle.binfarce_pe.specs.PeParts.{places_view}
use Rattle.binfarce_tables.proofs.PeWhole.{outside, truncated, whole, headers_read}
use Rattle.binfarce_tables.proofs.pe.read_headers.Goals as goal

pub returns-then-offset-opened-clause-answer : goal.returns-then-offset-opened-clause-answer
returns-then-offset-opened-clause-answer g c = λ file known. outside file (places_view c.args.places) (omega (arith, known.1, c.if-offset-opened.true))

pub returns-then-saturating_sub-rest-clause-answer : goal.returns-then-saturating_sub-rest-clause-answer
returns-then-saturating_sub-rest-clause-answer g c = λ file known.
    truncated file (places_view c.args.places) (omega (arith, known.1, c.if-offset-opened.false)) (omega (arith, known.1, c.saturating_sub.ensures, c.if-saturating_sub-rest.true))

pub returns-clause-answer : goal.returns-clause-answer
returns-clause-answer g c = λ file known.
    let places = places_view c.args.places in
    let begins : places.sections < length file = omega (arith, known.1, c.if-offset-opened.false) in
    let fits : places.section_count * 40 - 16 ≤ length file - places.sections = omega (arith, known.1, c.saturating_sub.ensures, c.if-saturating_sub-rest.false) in
    let least : c.min.result ≡ min (places.section_count * 40) (length file - places.sections) = omega (arith, known.1, c.min.ensures) in
    headers_read (g.S.Source.may_fail c.args.opened.now.source.now) file places c.min.result c.part.result least (whole file places begins fits) (c.part.ensures.part file known.0 (omega (arith, least, begins)))
