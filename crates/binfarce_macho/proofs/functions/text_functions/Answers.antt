use Rattle.std.proofs.Common.{[], map, refl, ap}
use Rattle.std.specs.Option.{option_map}
use Rattle.binfarce_bytes.specs.Refusal.{refusal_of}
use Rattle.binfarce_bytes.specs.SymbolViews.{section_function_view}
use Rattle.binfarce_macho.specs.MachoParts.{table_view}
use Rattle.binfarce_macho.specs.MachoSelection.{extent_view, symbols_view}
use Rattle.binfarce_macho.specs.MachoSymbols.{macho_answer, HasAddress}
use Rattle.binfarce_macho.proofs.MachoAnswers.{refusal_answers, value_answers}
use Rattle.binfarce_macho.proofs.TextAnswers.{HoldsText, text_refused, table_refused, symbols_refused, nothing_listed, text_error, text_given}
use Rattle.binfarce_macho.proofs.functions.text_functions.Goals as goal

pub returns-in_err-text : goal.returns-in_err-text
returns-in_err-text c =
    let file = c.args.file.now in
    let e = c.in_err-text.field-0.0 in
    refusal_answers HoldsText (λ _. HasAddress file) (macho_answer file) e c.from_residual.result (text_refused file (refusal_of e) c.in_err-text.ensures) c.from_residual.ensures.1

pub returns-in_err-table : goal.returns-in_err-table
returns-in_err-table c =
    let file = c.args.file.now in
    let e = c.in_err-table.field-0.0 in
    refusal_answers HoldsText (λ _. HasAddress file) (macho_answer file) e c.from_residual-in_err-table.result
    (table_refused file (extent_view c.in_ok-text.text) c.in_ok-text.ensures (refusal_of e) c.in_err-table.ensures) c.from_residual-in_err-table.ensures.1

pub returns-in_err-symbols_by : goal.returns-in_err-symbols_by
returns-in_err-symbols_by c =
    let file = c.args.file.now in
    let e = c.in_err-symbols_by.field-0.0 in
    refusal_answers HoldsText (λ _. HasAddress file) (macho_answer file) e c.from_residual-in_err-symbols_by.result
    (symbols_refused file (extent_view c.in_ok-text.text) c.in_ok-text.ensures (option_map table_view c.in_ok-table.table) c.in_ok-table.ensures (refusal_of e) c.in_err-symbols_by.ensures) c.from_residual-in_err-symbols_by.ensures.1

pub returns-in_err-functions-in-Some : goal.returns-in_err-functions-in-Some
returns-in_err-functions-in-Some c =
    text_error c.args.file.now (extent_view c.in_ok-text.text) c.in_ok-text.ensures (option_map table_view c.in_ok-table.table) c.in_ok-table.ensures (symbols_view c.in-Some.symbols)
    (rw c.in-Some.is at c.in_ok-symbols_by.ensures) c.in_err-functions-in-Some.field-0.0 c.from_residual-in_err-functions-in-Some.result
    c.in_err-functions-in-Some.ensures c.from_residual-in_err-functions-in-Some.ensures.1

pub returns-in-None : goal.returns-in-None
returns-in-None c =
    let file = c.args.file.now in
    value_answers HoldsText (λ _. HasAddress file) (macho_answer file) (record { entries = []; section_size = 0 }) (c.new.result, 0)
    (nothing_listed file (extent_view c.in_ok-text.text) c.in_ok-text.ensures (option_map table_view c.in_ok-table.table) c.in_ok-table.ensures (rw c.in-None.is at c.in_ok-symbols_by.ensures))
    (ap (λ fs. map (λ e. e.entry) (map section_function_view fs)) c.new.ensures.items, refl)

pub returns-in_ok-functions-in-Some : goal.returns-in_ok-functions-in-Some
returns-in_ok-functions-in-Some c =
    text_given c.args.file.now (extent_view c.in_ok-text.text) c.in_ok-text.ensures (option_map table_view c.in_ok-table.table) c.in_ok-table.ensures (symbols_view c.in-Some.symbols)
    (rw c.in-Some.is at c.in_ok-symbols_by.ensures) c.in_ok-functions-in-Some.functions c.in_ok-functions-in-Some.ensures
