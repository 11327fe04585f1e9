use Rattle.std.proofs.Common.{◌≡◌, ◌≤◌, ◌∙◌, ℕ, Vec, Global, arith, length, refl, Err}
use Rattle.std.specs.Option.{option_map}
use Rattle.binfarce_bytes.specs.Selection.{section_of}
use Rattle.binfarce_macho.specs.MachoSelection.{selected_file_tables}
use Rattle.binfarce_macho.specs.MachoSymbols.{symbols_by}
use Rattle.binfarce_tables.specs.MachoReading.{parts_view, symbols_view}
use Rattle.binfarce_tables.specs.MachoReads.{command_bytes}
use Rattle.binfarce_tables.specs.machine.MachoPlaces.{selected_commands, found_view}
use Rattle.binfarce_tables.proofs.MachoLocated.{after_commands, steps_are, from_found}
use Rattle.binfarce_tables.proofs.Readings.{after_err, as_long_as, from_memory, held, instead, memory_readable, passed}
use Rattle.binfarce_tables.proofs.MachoSure.{header_part, section_parts, symbol_parts, commands_table}
use Rattle.binfarce_tables.proofs.Sure.{within, next, ending, unmeasured, passed_only}
use Rattle.binfarce_tables.proofs.macho.read.Goals as goal

pub returns-in_err-found-clause-answer : goal.returns-in_err-found-clause-answer
returns-in_err-found-clause-answer g c = λ file known.
    let section = section_of c.args.selection in
    let is_known = c.in_ok-opened.ensures.known file known in
    let fails = g.S.Source.may_fail c.in_ok-opened.opened.source.now in
    let inside : 28 ≤ length file = omega (arith, is_known.1, c.in_ok-commands.ensures.long) in
    let are : c.deref.result.now ≡ command_bytes file = c.deref.ensures.value ∙ held 28 file _ _ (c.in_ok-commands.ensures.answer file is_known) in
    let e = c.in_err-found.field-0.0 in
    rw c.in_ok-opened.ensures.source at (passed fails parts_view _ e c.from_residual-in_err-found.result c.from_residual-in_err-found.ensures
    (instead fails parts_view (selected_file_tables section file) _ (Err e) (steps_are section file inside)
    (after_err fails found_view parts_view (selected_commands section file) (after_commands file) e (from_memory fails found_view (selected_commands section file) (Err e) (c.in_err-found.ensures file inside are)))))

pub returns-in_err-symbols-clause-answer : goal.returns-in_err-symbols-clause-answer
returns-in_err-symbols-clause-answer g c = λ file known.
    let section = section_of c.args.selection in
    let is_known = c.in_ok-opened.ensures.known file known in
    let fails = g.S.Source.may_fail c.in_ok-opened.opened.source.now in
    let inside : 28 ≤ length file = omega (arith, is_known.1, c.in_ok-commands.ensures.long) in
    let are : c.deref.result.now ≡ command_bytes file = c.deref.ensures.value ∙ held 28 file _ _ (c.in_ok-commands.ensures.answer file is_known) in
    let found = found_view c.in_ok-found.found in
    let e = c.in_err-symbols.field-0.0 in
    rw c.in_ok-opened.ensures.source at (passed fails parts_view _ e c.from_residual-in_err-symbols.result c.from_residual-in_err-symbols.ensures
    (instead fails parts_view (selected_file_tables section file) (after_commands file found) (Err e) (from_found section file found inside (c.in_ok-found.ensures file inside are))
    (after_err fails (option_map symbols_view) parts_view (symbols_by file found.table) _ e (c.in_err-symbols.ensures.answer file is_known))))

pub returns-clause-answer : goal.returns-clause-answer
returns-clause-answer g c = λ file known.
    let section = section_of c.args.selection in
    let is_known = c.in_ok-opened.ensures.known file known in
    let inside : 28 ≤ length file = omega (arith, is_known.1, c.in_ok-commands.ensures.long) in
    let are : c.deref.result.now ≡ command_bytes file = c.deref.ensures.value ∙ held 28 file _ _ (c.in_ok-commands.ensures.answer file is_known) in
    let found = found_view c.in_ok-found.found in
    rw (from_found section file found inside (c.in_ok-found.ensures file inside are), c.in_ok-symbols.ensures.answer file is_known) refl

pub returns-in_err-opened-clause-only : goal.returns-in_err-opened-clause-only
returns-in_err-opened-clause-only g c = λ file known. unmeasured _ (λ P all. header_part P file (section_parts P file all)) c.in_err-opened.ensures.unsure

pub returns-in_err-commands-clause-only : goal.returns-in_err-commands-clause-only
returns-in_err-commands-clause-only g c = λ file known.
    let is_known = c.in_ok-opened.ensures.known file known in
    rw c.in_ok-opened.ensures.source at (passed_only _ (within (λ P. section_parts P file) (c.in_err-commands.ensures.only file is_known)) c.from_residual-in_err-commands.ensures)

pub returns-in_err-found-clause-only : goal.returns-in_err-found-clause-only
returns-in_err-found-clause-only g c = λ file known.
    let is_known = c.in_ok-opened.ensures.known file known in
    let inside : 28 ≤ length file = omega (arith, is_known.1, c.in_ok-commands.ensures.long) in
    let are : c.deref.result.now ≡ command_bytes file = c.deref.ensures.value ∙ held 28 file _ _ (c.in_ok-commands.ensures.answer file is_known) in
    let e = c.in_err-found.field-0.0 in
    rw c.in_ok-opened.ensures.source at (passed_only _ (ending (within (λ P. section_parts P file) (c.in_ok-commands.ensures.only file is_known))
    (memory_readable found_view (selected_commands (section_of c.args.selection) file) (Err e) (c.in_err-found.ensures file inside are))) c.from_residual-in_err-found.ensures)

pub returns-in_err-symbols-clause-only : goal.returns-in_err-symbols-clause-only
returns-in_err-symbols-clause-only g c = λ file known.
    let is_known = c.in_ok-opened.ensures.known file known in
    let inside : 28 ≤ length file = omega (arith, is_known.1, c.in_ok-commands.ensures.long) in
    let are : c.deref.result.now ≡ command_bytes file = c.deref.ensures.value ∙ held 28 file _ _ (c.in_ok-commands.ensures.answer file is_known) in
    let found = found_view c.in_ok-found.found in
    let table = commands_table (section_of c.args.selection) file found (c.in_ok-found.ensures file inside are) in
    rw c.in_ok-opened.ensures.source at (passed_only _ (next (within (λ P. section_parts P file) (c.in_ok-commands.ensures.only file is_known)) (within (λ P. symbol_parts P file found.table table) (c.in_err-symbols.ensures.only file is_known)))
    c.from_residual-in_err-symbols.ensures)

pub returns-clause-only : goal.returns-clause-only
returns-clause-only g c = λ file known.
    let is_known = c.in_ok-opened.ensures.known file known in
    let inside : 28 ≤ length file = omega (arith, is_known.1, c.in_ok-commands.ensures.long) in
    let are : c.deref.result.now ≡ command_bytes file = c.deref.ensures.value ∙ held 28 file _ _ (c.in_ok-commands.ensures.answer file is_known) in
    let found = found_view c.in_ok-found.found in
    let table = commands_table (section_of c.args.selection) file found (c.in_ok-found.ensures file inside are) in
    rw c.in_ok-opened.ensures.source at (next (within (λ P. section_parts P file) (c.in_ok-commands.ensures.only file is_known)) (within (λ P. symbol_parts P file found.table table) (c.in_ok-symbols.ensures.only file is_known)))

pub returns-in_err-commands-clause-answer : goal.returns-in_err-commands-clause-answer
returns-in_err-commands-clause-answer g c = λ file known.
    let is_known = c.in_ok-opened.ensures.known file known in
    let fails = g.S.Source.may_fail c.in_ok-opened.opened.source.now in
    let section = section_of c.args.selection in
    let e = c.in_err-commands.field-0.0 in
    rw c.in_ok-opened.ensures.source at (passed fails parts_view (selected_file_tables section file) e c.from_residual-in_err-commands.result c.from_residual-in_err-commands.ensures
    (as_long_as fails (λ (v : Vec ℕ Global). v.items) parts_view 28 file (command_bytes file) _ e (c.in_err-commands.ensures.answer file is_known)))
