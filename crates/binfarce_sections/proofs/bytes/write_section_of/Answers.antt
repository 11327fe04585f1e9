use Rattle.binfarce_tables.proofs.Readings.{err_is}
use Rattle.std.proofs.Common.{Ok, ap, sym, ◌∙◌}
use Rattle.std.specs.Prelude.{◌≢◌, IfErr}
use Rattle.binfarce.specs.Format.{format_of}
use Rattle.binfarce_sections.specs.Named.{bytes_named}
use Rattle.binfarce_sections.specs.Section.{sections_of}
use Rattle.binfarce_sections.specs.Results.{TakesRead, Fails}
use Rattle.binfarce_sections.specs.declared.error.SectionError.TheVariants.{Unreadable}
use Rattle.binfarce_sections.proofs.SourceAnswers.{bytes_taken, bytes_untaken, unfailed}
use Rattle.binfarce_sections.proofs.Sure.{bytes_surely}
use Rattle.binfarce_tables.proofs.Sure.{ending}
use Rattle.binfarce_sections.proofs.bytes.write_section_of.Goals as goal

pub returns-in_err-bytes-clause-takes : goal.returns-in_err-bytes-clause-takes
returns-in_err-bytes-clause-takes g c = λ file known.
    let fails = g.F.Source.may_fail c.args.source.now in
    let answer = bytes_named (sections_of (format_of file) file) file c.args.name.now in
    let old = g.S.Sink.taken c.args.out.now in
    let e = c.in_err-bytes.field-0.0 in
    err_is (λ r. TakesRead fails answer old old r) c.from_residual.result e c.from_residual.ensures (bytes_untaken fails answer e old (c.in_err-bytes.ensures.reads file known))

pub returns-clause-takes : goal.returns-clause-takes
returns-clause-takes g c = λ file known.
    bytes_taken (g.F.Source.may_fail c.args.source.now) (bytes_named (sections_of (format_of file) file) file c.args.name.now) c.as_slice.result.now (g.S.Sink.taken c.args.out.now) (g.S.Sink.taken c.write_all.new.out) c.write_all.result
    (c.in_ok-bytes.ensures.reads file known ∙ ap Ok (sym c.as_slice.ensures.value)) c.write_all.ensures.takes

pub returns-in_err-bytes-clause-fails : goal.returns-in_err-bytes-clause-fails
returns-in_err-bytes-clause-fails g c =
    let old = g.S.Sink.has_failed c.args.out.now in
    let e = c.in_err-bytes.field-0.0 in
    err_is (λ r. Fails old old r) c.from_residual.result e c.from_residual.ensures (unfailed (Unit {0}) old e c.in_err-bytes.ensures.unwritten)

pub returns-in_err-bytes-clause-only : goal.returns-in_err-bytes-clause-only
returns-in_err-bytes-clause-only g c = λ file known.
    let reads = c.in_err-bytes.ensures.only file known in
    record { asked = reads.asked; given = λ are. err_is (λ r. IfErr r (λ s. s ≢ Unreadable)) c.from_residual.result c.in_err-bytes.field-0.0 c.from_residual.ensures (reads.given are) }

pub returns-clause-only : goal.returns-clause-only
returns-clause-only g c = λ file known.
    ending (c.in_ok-bytes.ensures.only file known)
    (bytes_surely c.as_slice.result.now (g.S.Sink.taken c.args.out.now) (g.S.Sink.taken c.write_all.new.out) c.write_all.result c.write_all.ensures.takes)
