use Rattle.std.proofs.Common.{◌≢◌, []}
use Rattle.std.specs.Option.{option_map}
use Rattle.binfarce_bytes.specs.Refusal.{refusal_of}
use Rattle.binfarce_bytes.specs.Selection.{section_of}
use Rattle.binfarce_bytes.specs.SymbolViews.{HoldsSized}
use Rattle.binfarce_macho.specs.MachoParts.{table_view}
use Rattle.binfarce_macho.specs.MachoSections.{HasSection}
use Rattle.binfarce_macho.specs.MachoSelection.{selected_answer, sections_view, symbols_view}
use Rattle.binfarce_macho.proofs.MachoAnswers.{refusal_answers}
use Rattle.binfarce_macho.proofs.Selected.{some_numbered, sections_unread, table_refused, symbols_refused, functions_selected, error_selected}
use Rattle.binfarce_macho.proofs.functions.functions_of_file.Goals as goal

pub returns-in_err-sections : goal.returns-in_err-sections
returns-in_err-sections c = sections_unread (section_of c.args.selection) c.args.file.now c.in_err-sections.field-0.0 c.from_residual.result c.in_err-sections.ensures c.from_residual.ensures.1

pub returns-in_err-table : goal.returns-in_err-table
returns-in_err-table c =
    let section = section_of c.args.selection in
    let file = c.args.file.now in
    let e = c.in_err-table.field-0.0 in
    refusal_answers HoldsSized (λ _. HasSection file) (selected_answer section file) e c.from_residual-in_err-table.result
    (table_refused section file (sections_view c.in_ok-sections.sections) c.in_ok-sections.ensures (refusal_of e) c.in_err-table.ensures) c.from_residual-in_err-table.ensures.1

pub returns-in_err-symbols : goal.returns-in_err-symbols
returns-in_err-symbols c =
    let section = section_of c.args.selection in
    let file = c.args.file.now in
    let e = c.in_err-symbols.field-0.0 in
    refusal_answers HoldsSized (λ _. HasSection file) (selected_answer section file) e c.from_residual-in_err-symbols.result
    (symbols_refused section file (sections_view c.in_ok-sections.sections) c.in_ok-sections.ensures (option_map table_view c.in_ok-table.table) c.in_ok-table.ensures (refusal_of e) c.in_err-symbols.ensures) c.from_residual-in_err-symbols.ensures.1

pub returns-in_err-functions : goal.returns-in_err-functions
returns-in_err-functions c =
    let section = section_of c.args.selection in
    let file = c.args.file.now in
    let sections = sections_view c.in_ok-sections.sections in
    error_selected section file sections c.in_ok-sections.ensures (option_map table_view c.in_ok-table.table) c.in_ok-table.ensures (option_map symbols_view c.in_ok-symbols.symbols) c.in_ok-symbols.ensures
    (sections.sections ≢ []) (HasSection file) c.in_err-functions.field-0.0 c.from_residual-in_err-functions.result
    (some_numbered section file sections c.in_ok-sections.ensures) c.in_err-functions.ensures c.from_residual-in_err-functions.ensures.1

pub returns : goal.returns
returns c =
    let section = section_of c.args.selection in
    let file = c.args.file.now in
    let sections = sections_view c.in_ok-sections.sections in
    functions_selected section file sections c.in_ok-sections.ensures (option_map table_view c.in_ok-table.table) c.in_ok-table.ensures (option_map symbols_view c.in_ok-symbols.symbols) c.in_ok-symbols.ensures
    (sections.sections ≢ []) (HasSection file) c.in_ok-functions.functions c.size.result c.size.ensures c.in_ok-functions.ensures
