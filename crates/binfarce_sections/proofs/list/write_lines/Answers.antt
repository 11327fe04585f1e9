use Rattle.std.proofs.Common.{Some, refl}
use Rattle.binfarce_rows.specs.Json.{style_of}
use Rattle.binfarce_sections.specs.Views.{sections_left}
use Rattle.binfarce_sections.proofs.Searching.{untaken}
use Rattle.binfarce_sections.proofs.list.write_lines.Goals as goal

pub returns-in_err-text-clause-takes : goal.returns-in_err-text-clause-takes
returns-in_err-text-clause-takes g c =
    untaken (style_of c.args.form) (Some (sections_left c.args.sections)) c.args.sections (g.S.Sink.taken c.args.out.now) c.from_residual.result refl c.from_residual.ensures.1
