use Rattle.std.proofs.Common.{ℕ, Vec, Global, Ok, arith}
use Rattle.binfarce_tables.proofs.MachoPrefix.{begins_with_commands, sections_of_bytes}
use Rattle.binfarce_tables.proofs.Readings.{as_long_as, held, no_beginning}
use Rattle.binfarce_tables.proofs.MachoSure.{header_part}
use Rattle.binfarce_tables.proofs.Sure.{passed_only, unmeasured}
use Rattle.binfarce_bytes.specs.Walk.{Walk}
use Rattle.binfarce_macho.specs.Macho.{Section, walk}
use Rattle.binfarce_tables.specs.BeginningReading.{macho_sections}
use Rattle.binfarce_tables.specs.MachoReads.{command_bytes}
use Rattle.binfarce_tables.proofs.macho.read_sections.Goals as goal

pub returns-clause-answer : goal.returns-clause-answer
returns-clause-answer g c = λ file known.
    let is_known = c.in_ok-opened.ensures.known file known in
    (begins_with_commands file c.in_ok-bytes.bytes.items (held 28 file _ _ (c.in_ok-bytes.ensures.answer file is_known)), sections_of_bytes file c.in_ok-bytes.bytes.items (omega (arith, is_known.1, c.in_ok-bytes.ensures.long)) (held 28 file _ _ (c.in_ok-bytes.ensures.answer file is_known)), is_known.1)

pub returns-in_err-opened-clause-only : goal.returns-in_err-opened-clause-only
returns-in_err-opened-clause-only g c = λ file known. unmeasured _ (λ P. header_part P file) c.in_err-opened.ensures.unsure

pub returns-in_err-bytes-clause-answer : goal.returns-in_err-bytes-clause-answer
returns-in_err-bytes-clause-answer g c = λ file known.
    let is_known = c.in_ok-opened.ensures.known file known in
    let fails = g.S.Source.may_fail c.in_ok-opened.opened.source.now in
    let e = c.in_err-bytes.field-0.0 in
    rw c.in_ok-opened.ensures.source at (no_beginning fails macho_sections file e c.from_residual-in_err-bytes.result c.from_residual-in_err-bytes.ensures
    (as_long_as fails (λ (v : Vec ℕ Global). v.items) (λ (w : Walk Section). w) 28 file (command_bytes file) (Ok (walk file)) e (c.in_err-bytes.ensures.answer file is_known)))

pub returns-in_err-bytes-clause-only : goal.returns-in_err-bytes-clause-only
returns-in_err-bytes-clause-only g c = λ file known.
    let is_known = c.in_ok-opened.ensures.known file known in
    rw c.in_ok-opened.ensures.source at (passed_only _ (c.in_err-bytes.ensures.only file is_known) c.from_residual-in_err-bytes.ensures)

pub returns-clause-only : goal.returns-clause-only
returns-clause-only g c = λ file known.
    let is_known = c.in_ok-opened.ensures.known file known in
    rw c.in_ok-opened.ensures.source at (c.in_ok-bytes.ensures.only file is_known)
