use Rattle.std.proofs.Common.{sym}
use Rattle.std.specs.Option.{option_map}
use Rattle.binfarce_bytes.specs.Refusal.{unexpected_eof}
use Rattle.binfarce_pe.specs.PeParts.{headers_view}
use Rattle.binfarce_pe.specs.PeViews.{section_view}
use Rattle.binfarce_pe.proofs.Selected.{code_found, code_refused}
use Rattle.binfarce_pe.proofs.functions.code_section.Goals as goal

pub returns-in-Ok : goal.returns-in-Ok
returns-in-Ok c = sym (code_found (headers_view c.args.sections) (option_map section_view c.in-Ok.found) c.in-Ok.ensures)

pub returns-in-Err : goal.returns-in-Err
returns-in-Err c = sym (code_refused (headers_view c.args.sections) unexpected_eof c.in-Err.ensures)
