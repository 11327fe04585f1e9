use Rattle.binfarce.specs.Format.{format_of}
use Rattle.binfarce_sections.specs.Section.{sections_of}
use Rattle.binfarce_rows.specs.Json.{lines}
use Rattle.binfarce_sections.proofs.SourceAnswers.{lines_opened}
use Rattle.binfarce_sections.proofs.list.list_sections.Goals as goal

pub returns-clause-takes : goal.returns-clause-takes
returns-clause-takes g c =
    lines_opened lines (sections_of (format_of c.args.file.now) c.args.file.now) c.in-Ok.sections (g.S.Sink.taken c.args.out.now) (g.S.Sink.taken c.write_lines.new.out) c.write_lines.result c.in-Ok.ensures.opens c.write_lines.ensures.takes
