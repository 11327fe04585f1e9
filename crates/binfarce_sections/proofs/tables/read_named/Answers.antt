use Rattle.binfarce_tables.proofs.Readings.{err_is}
use Rattle.std.proofs.Common.{◌≡◌, Option, Some, None, Ok, Err, refl, ap, ◌∙◌, length}
use Rattle.std.specs.Prelude.{◌≢◌, IfErr}
use Rattle.std.specs.Option.{option_map}
use Rattle.binfarce.specs.Format.{format_of}
use Rattle.binfarce.specs.Refusal.{refusal_of}
use Rattle.binfarce_sections.specs.declared.sections.Section as code
use Rattle.binfarce_sections.specs.Named.{refused, no_section, bytes_named, bytes_of}
use Rattle.binfarce_sections.specs.Section.{sections_of}
use Rattle.binfarce_sections.specs.Results.{error_of}
use Rattle.binfarce_sections.specs.Views.{section_view}
use Rattle.binfarce_sections.specs.declared.error.SectionError.TheVariants.{Parse, Unreadable}
use Rattle.binfarce_sections.specs.machine.Found.{ReadsBytes}
use Rattle.binfarce_sections.proofs.SourceAnswers.{bytes_opened, bytes_unopened, bytes_unread, read_same, unwritten}
use Rattle.binfarce_sections.proofs.Sure.{of_sections, of_bytes, converted_only, opened_surely}
use Rattle.binfarce_sections.proofs.TablesRead.{length_is}
use Rattle.binfarce_tables.proofs.Sure.{within, next, ending}
use Rattle.binfarce_sections.proofs.tables.read_named.Goals as goal

pub returns-in_err-tables-clause-reads : goal.returns-in_err-tables-clause-reads
returns-in_err-tables-clause-reads g c = λ file known.
    let fails = g.F.Source.may_fail c.args.source.now in
    let e = c.in_err-tables.field-0.0 in
    err_is (λ r. ReadsBytes fails (bytes_named (sections_of (format_of file) file) file c.args.name.now) r) c.from_residual.result (error_of e) c.from_residual.ensures
    (bytes_unread fails file c.args.name.now e (c.in_err-tables.ensures.reads file known))

pub returns-in_err-sections-clause-reads : goal.returns-in_err-sections-clause-reads
returns-in_err-sections-clause-reads g c = λ file known.
    let fails = g.F.Source.may_fail c.args.source.now in
    let walk = sections_of (format_of file) file in
    let e = c.in_err-sections.field-0.0 in
    err_is (λ r. ReadsBytes fails (bytes_named walk file c.args.name.now) r) c.from_residual-in_err-sections.result e c.from_residual-in_err-sections.ensures
    (bytes_unopened fails walk file c.args.name.now e (c.in_err-sections.ensures.opens file (c.in_ok-tables.ensures.reads file known)))

pub returns-in_err-found-clause-reads : goal.returns-in_err-found-clause-reads
returns-in_err-found-clause-reads g c = λ file known.
    let fails = g.F.Source.may_fail c.args.source.now in
    let walk = sections_of (format_of file) file in
    let e = c.in_err-found.field-0.0 in
    err_is (λ r. ReadsBytes fails (bytes_named walk file c.args.name.now) r) c.from_residual-in_err-found.result (Parse e) c.from_residual-in_err-found.ensures
    (refused (refusal_of e), bytes_opened walk c.in_ok-sections.sections file c.args.name.now (Err (refusal_of e)) (c.in_ok-sections.ensures.opens file (c.in_ok-tables.ensures.reads file known)) c.in_err-found.ensures, refl)

pub returns-in_err-tables-clause-unwritten : goal.returns-in_err-tables-clause-unwritten
returns-in_err-tables-clause-unwritten g c = unwritten c.from_residual.result c.in_err-tables.field-0.0 c.from_residual.ensures

pub returns-in-Some-clause-reads : goal.returns-in-Some-clause-reads
returns-in-Some-clause-reads g c = λ file known.
    let walk = sections_of (format_of file) file in
    let are = c.in_ok-tables.ensures.reads file known in
    let opened = c.in_ok-sections.ensures.opens file are in
    let section = section_view c.in-Some.section in
    let long : c.file_length.result ≡ length file = length_is file c.in_ok-tables.tables c.file_length.result c.in_ok-sections.sections are c.file_length.ensures opened in
    read_same (g.F.Source.may_fail c.args.source.now) (bytes_named walk file c.args.name.now) (bytes_of file section) c.read_bytes.result
    (bytes_opened walk c.in_ok-sections.sections file c.args.name.now (Ok (Some section)) opened (c.in_ok-found.ensures ∙ ap (λ (f : Option code.Section). Ok (option_map section_view f)) c.in-Some.is))
    (c.read_bytes.ensures.reads file known long)

pub returns-clause-reads : goal.returns-clause-reads
returns-clause-reads g c = λ file known.
    let walk = sections_of (format_of file) file in (
      no_section,
      bytes_opened walk c.in_ok-sections.sections file c.args.name.now (Ok None) (c.in_ok-sections.ensures.opens file (c.in_ok-tables.ensures.reads file known)) (c.in_ok-found.ensures ∙ ap (λ (f : Option code.Section). Ok (option_map section_view f)) c.in-None.is),
      refl,
    )

pub returns-in_err-tables-clause-only : goal.returns-in_err-tables-clause-only
returns-in_err-tables-clause-only g c = λ file known. converted_only _ (within (λ P. of_sections P file c.args.name.now) (c.in_err-tables.ensures.only file known)) c.from_residual.ensures

pub returns-in_err-sections-clause-only : goal.returns-in_err-sections-clause-only
returns-in_err-sections-clause-only g c = λ file known.
    let e = c.in_err-sections.field-0.0 in
    ending (within (λ P. of_sections P file c.args.name.now) (c.in_ok-tables.ensures.only file known))
    (err_is (λ r. IfErr r (λ s. s ≢ Unreadable)) c.from_residual-in_err-sections.result e c.from_residual-in_err-sections.ensures
    (opened_surely (sections_of (format_of file) file) e (c.in_err-sections.ensures.opens file (c.in_ok-tables.ensures.reads file known))))

pub returns-in_err-found-clause-only : goal.returns-in_err-found-clause-only
returns-in_err-found-clause-only g c = λ file known.
    let e = c.in_err-found.field-0.0 in
    ending (within (λ P. of_sections P file c.args.name.now) (c.in_ok-tables.ensures.only file known))
    (err_is (λ r. IfErr r (λ s. s ≢ Unreadable)) c.from_residual-in_err-found.result (Parse e) c.from_residual-in_err-found.ensures (λ is. cc))

pub returns-clause-only : goal.returns-clause-only
returns-clause-only g c = λ file known. ending (within (λ P. of_sections P file c.args.name.now) (c.in_ok-tables.ensures.only file known)) (λ is. cc)

pub returns-in-Some-clause-only : goal.returns-in-Some-clause-only
returns-in-Some-clause-only g c = λ file known.
    let are = c.in_ok-tables.ensures.reads file known in
    let opened = c.in_ok-sections.ensures.opens file are in
    let long : c.file_length.result ≡ length file = length_is file c.in_ok-tables.tables c.file_length.result c.in_ok-sections.sections are c.file_length.ensures opened in
    let found = c.in_ok-found.ensures ∙ ap (λ (f : Option code.Section). Ok (option_map section_view f)) c.in-Some.is in
    next (within (λ P. of_sections P file c.args.name.now) (c.in_ok-tables.ensures.only file known))
    (within (λ P. of_bytes P c.in_ok-sections.sections file c.args.name.now (section_view c.in-Some.section) opened found) (c.read_bytes.ensures.only file known long))
