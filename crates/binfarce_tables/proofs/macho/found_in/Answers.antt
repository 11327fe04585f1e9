use Rattle.std.proofs.Common.{false, inl, inr}
use Rattle.binfarce_bytes.specs.Refusal.{refusal_of}
use Rattle.binfarce_bytes.specs.Selection.{section_of}
use Rattle.binfarce_macho.specs.MachoSelection.{sections_view}
use Rattle.binfarce_tables.specs.machine.MachoPlaces.{selected_commands, found_view}
use Rattle.binfarce_tables.proofs.MachoLocated.{sections_refused, table_refused, all_found, with_memory}
use Rattle.binfarce_tables.proofs.Readings.{converted}
use Rattle.binfarce_tables.proofs.macho.found_in.Goals as goal

pub returns-in-Err : goal.returns-in-Err
returns-in-Err c = λ file inside are.
    let section = section_of c.args.selection in
    with_memory found_view (selected_commands section file) c.in-Err.e c.error_of.result c.error_of.ensures
    (λ other. sections_refused section file c.args.commands.now inside are (refusal_of c.in-Err.e) (elim c.in-Err.ensures [ inl refused ↦ refused | inr out ↦ absurd (other out.0) ]))

pub returns-in_err-table : goal.returns-in_err-table
returns-in_err-table c = λ file inside are.
    let section = section_of c.args.selection in
    let p = c.in_err-table.field-0.0 in
    converted false found_view (selected_commands section file) p c.from_residual-in_err-table.result c.from_residual-in_err-table.ensures
    (table_refused section file c.args.commands.now inside are (sections_view c.in-Ok.sections) (refusal_of p) c.in-Ok.ensures c.in_err-table.ensures)

pub returns : goal.returns
returns c = λ file inside are.
    all_found (section_of c.args.selection) file c.args.commands.now inside are _ c.in-Ok.ensures c.in_ok-table.ensures
