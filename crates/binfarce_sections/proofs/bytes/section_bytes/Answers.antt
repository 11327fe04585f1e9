use Rattle.binfarce.specs.Format.{format_of}
use Rattle.binfarce_sections.specs.Section.{sections_of}
use Rattle.binfarce_sections.proofs.Searching.{hands_on}
use Rattle.binfarce_sections.proofs.bytes.section_bytes.Goals as goal

pub returns-in_err-section : goal.returns-in_err-section
returns-in_err-section c =
    hands_on (λ b. b.now) (sections_of (format_of c.args.file.now) c.args.file.now) c.args.file.now c.args.name.now c.in_err-section.field-0.0 c.from_residual.result c.in_err-section.ensures c.from_residual.ensures.1
