use Rattle.std.proofs.Common.{sym}
use Rattle.binfarce.specs.Format.{format_of}
use Rattle.binfarce_tables.proofs.Readings.{taken}
use Rattle.binfarce_tables.proofs.Sure.{within, one, next, passed_only}
use Rattle.binfarce_sections.proofs.Sure.{of_head, of_format}
use Rattle.binfarce_sections.proofs.TablesRead.{unasked}
use Rattle.binfarce_sections.proofs.tables.read.Goals as goal

pub returns-in_err-format-clause-reads : goal.returns-in_err-format-clause-reads
returns-in_err-format-clause-reads g c = λ file known.
    unasked (g.S.Source.may_fail c.args.source.now) (format_of file) file c.in_err-format.field-0.0 c.from_residual.result (c.in_err-format.ensures.answer file known) c.from_residual.ensures

pub returns-clause-reads : goal.returns-clause-reads
returns-clause-reads g c = λ file known. c.read_as.ensures.reads file known (taken (c.in_ok-format.ensures.answer file known))

pub returns-in_err-format-clause-only : goal.returns-in_err-format-clause-only
returns-in_err-format-clause-only g c = λ file known. passed_only _ (one (λ P. of_head P file) (c.in_err-format.ensures.only file known)) c.from_residual.ensures

pub returns-clause-only : goal.returns-clause-only
returns-clause-only g c = λ file known.
    next (one (λ P. of_head P file) (c.in_ok-format.ensures.only file known))
    (within (λ P. of_format P file c.in_ok-format.format (sym (taken (c.in_ok-format.ensures.answer file known)))) (c.read_as.ensures.only file known))
