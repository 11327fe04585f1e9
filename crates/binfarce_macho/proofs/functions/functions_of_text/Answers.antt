use Rattle.std.proofs.Common.{◌≢◌, ◌∙◌, sym, ap, subst, map, List, [], Some}
use Rattle.binfarce_bytes.specs.Refusal.{refusal_of}
use Rattle.binfarce_bytes.specs.Sizes.{arranged}
use Rattle.binfarce_bytes.specs.SymbolViews.{section_function_view}
use Rattle.binfarce_bytes.specs.declared.functions.SectionFunction.{SectionFunction}
use Rattle.binfarce_macho.specs.MachoSelection.{SomeAddress, extent_view, symbols_view}
use Rattle.binfarce_macho.specs.MachoSymbols.{entry_of, located_by, row_addresses}
use Rattle.binfarce_macho.specs.machine.RawMacho.{located_view, text_answer, HoldsInFirst}
use Rattle.binfarce_macho.proofs.TextRows.{listed, end_refused, text_located, text_listed}
use Rattle.binfarce_macho.proofs.MachoAnswers.{refusal_answers}
use Rattle.binfarce_macho.proofs.TextAnswers.{first_error, first_given}
use Rattle.binfarce_macho.proofs.functions.functions_of_text.Goals as goal

pub returns-in_err-end : goal.returns-in_err-end
returns-in_err-end c =
    let text = extent_view c.args.text in
    let symbols = symbols_view c.args.symbols in
    let found = located_by text (Some symbols) in
    let e = c.in_err-end.field-0.0 in
    refusal_answers HoldsInFirst (λ _. SomeAddress found) (text_answer text symbols) e c.from_residual.result
    (end_refused text symbols (refusal_of e) c.in_err-end.ensures) c.from_residual.ensures.1

pub returns-in_err-push_functions : goal.returns-in_err-push_functions
returns-in_err-push_functions c =
    let text = extent_view c.args.text in
    let symbols = symbols_view c.args.symbols in
    let found = located_by text (Some symbols) in
    let end = c.in_ok-end.end in
    let rows = arranged (row_addresses symbols.rows) in
    let entry = entry_of (located_view (record { end = end; symbols = c.args.symbols })) in
    first_error (row_addresses symbols.rows ≢ []) (SomeAddress found) (map section_function_view c.push_functions.new.functions.items)
    (listed (map section_function_view c.new-functions.result.items) entry rows) (text_answer text symbols)
    (ap (λ (fs : List SectionFunction). listed (map section_function_view fs) entry rows) c.new-functions.ensures.items ∙ text_listed text symbols end c.in_ok-end.ensures)
    c.in_err-push_functions.field-0.0 c.from_residual-in_err-push_functions.result
    (λ some. subst SomeAddress (sym (text_located text symbols end c.in_ok-end.ensures)) some)
    c.in_err-push_functions.ensures c.from_residual-in_err-push_functions.ensures.1

pub returns : goal.returns
returns c =
    let text = extent_view c.args.text in
    let symbols = symbols_view c.args.symbols in
    let found = located_by text (Some symbols) in
    let end = c.in_ok-end.end in
    let rows = arranged (row_addresses symbols.rows) in
    let entry = entry_of (located_view (record { end = end; symbols = c.args.symbols })) in
    first_given (row_addresses symbols.rows ≢ []) (SomeAddress found) (map section_function_view c.push_functions.new.functions.items)
    (listed (map section_function_view c.new-functions.result.items) entry rows) (text_answer text symbols)
    (ap (λ (fs : List SectionFunction). listed (map section_function_view fs) entry rows) c.new-functions.ensures.items ∙ text_listed text symbols end c.in_ok-end.ensures)
    c.push_functions.new.functions (λ entries is. is) c.in_ok-push_functions.ensures
