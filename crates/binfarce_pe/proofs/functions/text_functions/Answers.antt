use Rattle.binfarce_bytes.specs.Refusal.{refusal_of}
use Rattle.binfarce_pe.specs.PeParts.{table_view, text_view}
use Rattle.binfarce_pe.specs.PeSelection.{the_text, rules_of, entries_by}
use Rattle.binfarce_pe.specs.PeSymbols.{pe_answer}
use Rattle.binfarce_pe.proofs.Selected.{text_refused, symbols_refused, text_answered, text_err, text_memory, text_ok}
use Rattle.binfarce_pe.proofs.functions.text_functions.Goals as goal

pub returns-in_err-text : goal.returns-in_err-text
returns-in_err-text c =
    let file = c.args.file.now in
    let e = c.in_err-text.field-0.0 in
    text_err (pe_answer file) e c.from_residual.result (text_refused file (refusal_of e) (rw c.section_table.ensures at c.in_err-text.ensures)) c.from_residual.ensures.1

pub returns-in_err-symbols : goal.returns-in_err-symbols
returns-in_err-symbols c =
    let file = c.args.file.now in
    let e = c.in_err-symbols.field-0.0 in
    text_err (pe_answer file) e c.from_residual-in_err-symbols.result
    (symbols_refused file (text_view c.in_ok-text.text) (rw c.section_table.ensures at c.in_ok-text.ensures) (refusal_of e) c.in_err-symbols.ensures) c.from_residual-in_err-symbols.ensures.1

pub returns-in_err-functions : goal.returns-in_err-functions
returns-in_err-functions c =
    let file = c.args.file.now in
    let text = text_view c.in_ok-text.text in
    let symbols = table_view c.in_ok-symbols.symbols in
    text_memory (pe_answer file) (entries_by (rules_of (the_text text)) symbols) text.size c.from_residual-in_err-functions.result
    (text_answered file text (rw c.section_table.ensures at c.in_ok-text.ensures) symbols c.in_ok-symbols.ensures) c.in_err-functions.ensures.memory c.from_residual-in_err-functions.ensures.1

pub returns : goal.returns
returns c =
    let file = c.args.file.now in
    let text = text_view c.in_ok-text.text in
    let symbols = table_view c.in_ok-symbols.symbols in
    rw c.from.ensures
    (text_ok (pe_answer file) (entries_by (rules_of (the_text text)) symbols) text.size c.in_ok-functions.functions
    (text_answered file text (rw c.section_table.ensures at c.in_ok-text.ensures) symbols c.in_ok-symbols.ensures) c.in_ok-functions.ensures.functions)
