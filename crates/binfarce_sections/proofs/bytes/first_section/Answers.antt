use Rattle.binfarce_tables.proofs.Readings.{err_is}
use Rattle.binfarce.specs.Format.{format_of}
use Rattle.binfarce_sections.specs.Section.{sections_of}
use Rattle.binfarce_sections.specs.declared.error.SectionError.TheVariants.{Parse}
use Rattle.binfarce_sections.specs.machine.Found.{Finds}
use Rattle.binfarce_sections.proofs.SourceAnswers.{found_ok, found_err}
use Rattle.binfarce_sections.proofs.bytes.first_section.Goals as goal

pub returns-in_err-first_in : goal.returns-in_err-first_in
returns-in_err-first_in c =
    let walk = sections_of (format_of c.args.file.now) c.args.file.now in
    let e = c.in_err-first_in.field-0.0 in
    err_is (λ r. Finds walk c.args.name.now r) c.from_residual-in_err-first_in.result (Parse e) c.from_residual-in_err-first_in.ensures
    (found_err walk c.in_ok-sections_of.field-0 c.args.name.now e c.in_ok-sections_of.ensures.opens c.in_err-first_in.ensures)

pub returns : goal.returns
returns c =
    found_ok (sections_of (format_of c.args.file.now) c.args.file.now) c.in_ok-sections_of.field-0 c.args.name.now c.in_ok-first_in.field-0 c.in_ok-sections_of.ensures.opens c.in_ok-first_in.ensures
