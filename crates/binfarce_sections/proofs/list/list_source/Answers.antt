use Rattle.binfarce_tables.proofs.Readings.{err_is}
use Rattle.std.specs.Prelude.{◌≢◌, IfErr}
use Rattle.binfarce.specs.Format.{format_of}
use Rattle.binfarce_rows.specs.Json.{style_of}
use Rattle.binfarce_sections.specs.Section.{sections_of}
use Rattle.binfarce_sections.specs.Results.{TakesReadLines, Fails, error_of}
use Rattle.binfarce_sections.specs.Views.{sections_left}
use Rattle.binfarce_sections.specs.declared.error.SectionError.TheVariants.{Unreadable}
use Rattle.binfarce_sections.proofs.SourceAnswers.{lines_opened, lines_unopened, lines_read, lines_unread, unfailed}
use Rattle.binfarce_sections.proofs.Sure.{converted_only, opened_surely, lines_surely}
use Rattle.binfarce_tables.proofs.Sure.{ending}
use Rattle.binfarce_sections.proofs.list.list_source.Goals as goal

pub returns-in_err-tables-clause-takes : goal.returns-in_err-tables-clause-takes
returns-in_err-tables-clause-takes g c = λ file known.
    let fails = g.F.Source.may_fail c.args.source.now in
    let old = g.S.Sink.taken c.args.out.now in
    let e = c.in_err-tables.field-0.0 in
    err_is (λ r. TakesReadLines (style_of c.args.form) fails (sections_of (format_of file) file) old old r) c.from_residual.result (error_of e) c.from_residual.ensures
    (lines_unread (style_of c.args.form) fails file e old (c.in_err-tables.ensures.reads file known))

pub returns-in_err-sections-clause-takes : goal.returns-in_err-sections-clause-takes
returns-in_err-sections-clause-takes g c = λ file known.
    let fails = g.F.Source.may_fail c.args.source.now in
    let old = g.S.Sink.taken c.args.out.now in
    let e = c.in_err-sections.field-0.0 in
    err_is (λ r. TakesReadLines (style_of c.args.form) fails (sections_of (format_of file) file) old old r) c.from_residual-in_err-sections.result e c.from_residual-in_err-sections.ensures
    (lines_unopened (style_of c.args.form) fails (sections_of (format_of file) file) e old (c.in_err-sections.ensures.opens file (c.in_ok-tables.ensures.reads file known)))

pub returns-clause-takes : goal.returns-clause-takes
returns-clause-takes g c = λ file known.
    let walk = sections_of (format_of file) file in
    let old = g.S.Sink.taken c.args.out.now in
    let new = g.S.Sink.taken c.write_lines.new.out in
    lines_read (style_of c.args.form) (g.F.Source.may_fail c.args.source.now) walk old new c.write_lines.result
    (lines_opened (style_of c.args.form) walk c.in_ok-sections.sections old new c.write_lines.result (c.in_ok-sections.ensures.opens file (c.in_ok-tables.ensures.reads file known)) c.write_lines.ensures.takes)

pub returns-in_err-sections-clause-fails : goal.returns-in_err-sections-clause-fails
returns-in_err-sections-clause-fails g c =
    let old = g.S.Sink.has_failed c.args.out.now in
    let e = c.in_err-sections.field-0.0 in
    err_is (λ r. Fails old old r) c.from_residual-in_err-sections.result e c.from_residual-in_err-sections.ensures (unfailed (Unit {0}) old e c.in_err-sections.ensures.unwritten)

pub returns-in_err-tables-clause-only : goal.returns-in_err-tables-clause-only
returns-in_err-tables-clause-only g c = λ file known. converted_only _ (c.in_err-tables.ensures.only file known) c.from_residual.ensures

pub returns-in_err-sections-clause-only : goal.returns-in_err-sections-clause-only
returns-in_err-sections-clause-only g c = λ file known.
    let e = c.in_err-sections.field-0.0 in
    ending (c.in_ok-tables.ensures.only file known)
    (err_is (λ r. IfErr r (λ s. s ≢ Unreadable)) c.from_residual-in_err-sections.result e c.from_residual-in_err-sections.ensures
    (opened_surely (sections_of (format_of file) file) e (c.in_err-sections.ensures.opens file (c.in_ok-tables.ensures.reads file known))))

pub returns-clause-only : goal.returns-clause-only
returns-clause-only g c = λ file known.
    ending (c.in_ok-tables.ensures.only file known)
    (lines_surely (style_of c.args.form) (sections_left c.in_ok-sections.sections) (g.S.Sink.taken c.args.out.now) (g.S.Sink.taken c.write_lines.new.out) c.write_lines.result c.write_lines.ensures.takes)
