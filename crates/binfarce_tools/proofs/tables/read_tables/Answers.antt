use Rattle.std.proofs.Common.{◌≡◌, ℕ, Bool, List, Some, Result, Ok, Err, refl, sym, ap, subst, ◌∙◌}
use Rattle.binfarce_bytes.specs.Selection.{section_of}
use Rattle.binfarce.specs.declared.Format.{Format}
use Rattle.binfarce.specs.MachoSelection as macho_file
use Rattle.binfarce.specs.PeSelection as pe_file
use Rattle.binfarce.specs.Refusal.{◌>>=◌, Refusal, refusal_of}
use Rattle.binfarce.specs.SectionEntries.{SelectedSymbols}
use Rattle.binfarce_tables.specs.ElfReading as elf
use Rattle.binfarce_tables.specs.MachoReading as macho
use Rattle.binfarce_tables.specs.PeReading as pe
use Rattle.binfarce_tables.specs.declared.error.ReadError.TheVariants.{Refused}
use Rattle.binfarce_tools.specs.Answer.{selected_symbols}
use Rattle.binfarce_tools.specs.Parts.{format_parts}
use Rattle.binfarce_tools.specs.Tables.{AreTablesOf}
use Rattle.binfarce_tools.proofs.TablesRead.{of_format, with_table, without_table, unread, of_answer}
use Rattle.binfarce_tables.proofs.Sure.{nothing, passed_only, converted_surely}
use Rattle.binfarce.specs.declared.SymbolTable.{SymbolTable}
use Rattle.binfarce_bytes.specs.Part.{Part}
use Rattle.binfarce_bytes.specs.Source.{ReadsOnly}
use Rattle.binfarce_tools.proofs.tables.read_tables.Goals as goal

-- a reading of the parts of a file of the format that it has
in_format : {sure : Part → Bool} {old new : (Part → Bool) → Bool} {R : Type 0} {format is : Format} (which : SymbolTable) (file : List ℕ)
    → format ≡ is → ReadsOnly sure old new (format_parts which is file) R → ReadsOnly sure old new (format_parts which format file) R
in_format {sure = sure} {old = old} {new = new} {R = R} which file same reads = subst (λ (f : Format). ReadsOnly sure old new (format_parts which f file) R) (sym same) reads

pub returns-in_ok-parts-in-Elf32-clause-answer : goal.returns-in_ok-parts-in-Elf32-clause-answer
unfolding AreTablesOf selected_symbols
returns-in_ok-parts-in-Elf32-clause-answer g c = λ file known is_format.
    of_format c.args.which (section_of c.args.selection) file _ (sym is_format ∙ c.in-Elf32.is) ∙ ap Some (c.in_ok-parts-in-Elf32.ensures.answer file known)

pub returns-in_err-parts-in-Elf32-clause-answer : goal.returns-in_err-parts-in-Elf32-clause-answer
unfolding selected_symbols
returns-in_err-parts-in-Elf32-clause-answer g c = λ file known is_format.
    let section = section_of c.args.selection in
    unread (g.S.Source.may_fail c.args.source.now) c.args.which section file elf.parts_view _ _ _
    (of_format c.args.which section file _ (sym is_format ∙ c.in-Elf32.is)) (c.in_err-parts-in-Elf32.ensures.answer file known) c.from_residual.ensures

pub returns-in_ok-parts-in-Elf64-clause-answer : goal.returns-in_ok-parts-in-Elf64-clause-answer
unfolding AreTablesOf selected_symbols
returns-in_ok-parts-in-Elf64-clause-answer g c = λ file known is_format.
    of_format c.args.which (section_of c.args.selection) file _ (sym is_format ∙ c.in-Elf64.is) ∙ ap Some (c.in_ok-parts-in-Elf64.ensures.answer file known)

pub returns-in_err-parts-in-Elf64-clause-answer : goal.returns-in_err-parts-in-Elf64-clause-answer
unfolding selected_symbols
returns-in_err-parts-in-Elf64-clause-answer g c = λ file known is_format.
    let section = section_of c.args.selection in
    unread (g.S.Source.may_fail c.args.source.now) c.args.which section file elf.parts_view _ _ _
    (of_format c.args.which section file _ (sym is_format ∙ c.in-Elf64.is)) (c.in_err-parts-in-Elf64.ensures.answer file known) c.from_residual-in_err-parts-in-Elf64.ensures

pub returns-in_ok-parts-in-Macho-clause-answer : goal.returns-in_ok-parts-in-Macho-clause-answer
unfolding AreTablesOf selected_symbols
returns-in_ok-parts-in-Macho-clause-answer g c = λ file known is_format.
    let section = section_of c.args.selection in
    let answered = of_format c.args.which section file _ (sym is_format ∙ c.in-Macho.is) ∙ with_table c.args.which (macho_file.selected_file_answer section file) c.in_ok-has_table-in-Macho.ensures in
    (sym is_format ∙ c.in-Macho.is, answered ∙ ap (λ (r : Result macho_file.SelectedTables Refusal). Some (r >>= λ tables. Ok (macho_file.symbols_of tables))) (c.in_ok-parts-in-Macho.ensures.answer file known), c.in_ok-parts-in-Macho.ensures.answer file known)

pub returns-in_err-parts-in-Macho-clause-answer : goal.returns-in_err-parts-in-Macho-clause-answer
unfolding selected_symbols
returns-in_err-parts-in-Macho-clause-answer g c = λ file known is_format.
    let section = section_of c.args.selection in
    unread (g.S.Source.may_fail c.args.source.now) c.args.which section file (λ (s : SelectedSymbols). s) _ _ _
    (of_format c.args.which section file _ (sym is_format ∙ c.in-Macho.is) ∙ with_table c.args.which (macho_file.selected_file_answer section file) c.in_ok-has_table-in-Macho.ensures) (of_answer (g.S.Source.may_fail c.args.source.now) macho.parts_view (macho_file.selected_file_tables section file) (λ tables. Ok (macho_file.symbols_of tables)) c.in_err-parts-in-Macho.field-0.0 (c.in_err-parts-in-Macho.ensures.answer file known)) c.from_residual-in_err-parts-in-Macho.ensures

pub returns-in_err-has_table-in-Macho-clause-answer : goal.returns-in_err-has_table-in-Macho-clause-answer
unfolding selected_symbols
returns-in_err-has_table-in-Macho-clause-answer g c = λ file known is_format.
    let section = section_of c.args.selection in
    let error = c.in_err-has_table-in-Macho.field-0.0 in
    unread (g.S.Source.may_fail c.args.source.now) c.args.which section file (λ (s : SelectedSymbols). s) (Err (refusal_of error)) (Refused error) c.from_residual-in_err-has_table-in-Macho.result
    (of_format c.args.which section file _ (sym is_format ∙ c.in-Macho.is) ∙ without_table c.args.which (macho_file.selected_file_answer section file) error c.in_err-has_table-in-Macho.ensures) refl c.from_residual-in_err-has_table-in-Macho.ensures

pub returns-in_ok-parts-in-PE-clause-answer : goal.returns-in_ok-parts-in-PE-clause-answer
unfolding AreTablesOf selected_symbols
returns-in_ok-parts-in-PE-clause-answer g c = λ file known is_format.
    let section = section_of c.args.selection in
    let answered = of_format c.args.which section file _ (sym is_format ∙ c.in-PE.is) ∙ with_table c.args.which (pe_file.selected_file_answer section file) c.in_ok-has_table-in-PE.ensures in
    (sym is_format ∙ c.in-PE.is, answered ∙ ap Some (c.in_ok-parts-in-PE.ensures.answer file known))

pub returns-in_err-parts-in-PE-clause-answer : goal.returns-in_err-parts-in-PE-clause-answer
unfolding selected_symbols
returns-in_err-parts-in-PE-clause-answer g c = λ file known is_format.
    let section = section_of c.args.selection in
    unread (g.S.Source.may_fail c.args.source.now) c.args.which section file pe.selected_view _ _ _
    (of_format c.args.which section file _ (sym is_format ∙ c.in-PE.is) ∙ with_table c.args.which (pe_file.selected_file_answer section file) c.in_ok-has_table-in-PE.ensures) (c.in_err-parts-in-PE.ensures.answer file known) c.from_residual-in_err-parts-in-PE.ensures

pub returns-in_err-has_table-in-PE-clause-answer : goal.returns-in_err-has_table-in-PE-clause-answer
unfolding selected_symbols
returns-in_err-has_table-in-PE-clause-answer g c = λ file known is_format.
    let section = section_of c.args.selection in
    let error = c.in_err-has_table-in-PE.field-0.0 in
    unread (g.S.Source.may_fail c.args.source.now) c.args.which section file (λ (s : SelectedSymbols). s) (Err (refusal_of error)) (Refused error) c.from_residual-in_err-has_table-in-PE.result
    (of_format c.args.which section file _ (sym is_format ∙ c.in-PE.is) ∙ without_table c.args.which (pe_file.selected_file_answer section file) error c.in_err-has_table-in-PE.ensures) refl c.from_residual-in_err-has_table-in-PE.ensures

pub returns-in-Unknown-clause-answer : goal.returns-in-Unknown-clause-answer
unfolding AreTablesOf
returns-in-Unknown-clause-answer g c = λ file known is_format. sym is_format ∙ c.in-Unknown.is

pub returns-in_err-parts-in-Elf32-clause-only : goal.returns-in_err-parts-in-Elf32-clause-only
unfolding format_parts
returns-in_err-parts-in-Elf32-clause-only g c = λ file known. passed_only _ (in_format c.args.which file c.in-Elf32.is (c.in_err-parts-in-Elf32.ensures.only file known)) c.from_residual.ensures

pub returns-in_ok-parts-in-Elf32-clause-only : goal.returns-in_ok-parts-in-Elf32-clause-only
unfolding format_parts
returns-in_ok-parts-in-Elf32-clause-only g c = λ file known. in_format c.args.which file c.in-Elf32.is (c.in_ok-parts-in-Elf32.ensures.only file known)

pub returns-in_err-parts-in-Elf64-clause-only : goal.returns-in_err-parts-in-Elf64-clause-only
unfolding format_parts
returns-in_err-parts-in-Elf64-clause-only g c = λ file known. passed_only _ (in_format c.args.which file c.in-Elf64.is (c.in_err-parts-in-Elf64.ensures.only file known)) c.from_residual-in_err-parts-in-Elf64.ensures

pub returns-in_ok-parts-in-Elf64-clause-only : goal.returns-in_ok-parts-in-Elf64-clause-only
unfolding format_parts
returns-in_ok-parts-in-Elf64-clause-only g c = λ file known. in_format c.args.which file c.in-Elf64.is (c.in_ok-parts-in-Elf64.ensures.only file known)

pub returns-in_err-parts-in-Macho-clause-only : goal.returns-in_err-parts-in-Macho-clause-only
unfolding format_parts
returns-in_err-parts-in-Macho-clause-only g c = λ file known. passed_only _ (in_format c.args.which file c.in-Macho.is (c.in_err-parts-in-Macho.ensures.only file known)) c.from_residual-in_err-parts-in-Macho.ensures

pub returns-in_ok-parts-in-Macho-clause-only : goal.returns-in_ok-parts-in-Macho-clause-only
unfolding format_parts
returns-in_ok-parts-in-Macho-clause-only g c = λ file known. in_format c.args.which file c.in-Macho.is (c.in_ok-parts-in-Macho.ensures.only file known)

pub returns-in_err-parts-in-PE-clause-only : goal.returns-in_err-parts-in-PE-clause-only
unfolding format_parts
returns-in_err-parts-in-PE-clause-only g c = λ file known. passed_only _ (in_format c.args.which file c.in-PE.is (c.in_err-parts-in-PE.ensures.only file known)) c.from_residual-in_err-parts-in-PE.ensures

pub returns-in_ok-parts-in-PE-clause-only : goal.returns-in_ok-parts-in-PE-clause-only
unfolding format_parts
returns-in_ok-parts-in-PE-clause-only g c = λ file known. in_format c.args.which file c.in-PE.is (c.in_ok-parts-in-PE.ensures.only file known)

pub returns-in_err-has_table-in-Macho-clause-only : goal.returns-in_err-has_table-in-Macho-clause-only
returns-in_err-has_table-in-Macho-clause-only g c = λ file known. nothing (converted_surely c.in_err-has_table-in-Macho.field-0.0 c.from_residual-in_err-has_table-in-Macho.result c.from_residual-in_err-has_table-in-Macho.ensures)

pub returns-in_err-has_table-in-PE-clause-only : goal.returns-in_err-has_table-in-PE-clause-only
returns-in_err-has_table-in-PE-clause-only g c = λ file known. nothing (converted_surely c.in_err-has_table-in-PE.field-0.0 c.from_residual-in_err-has_table-in-PE.result c.from_residual-in_err-has_table-in-PE.ensures)
