use Rattle.std.proofs.Common.{◌≢◌, [], Ok, map, ap, subst, ◌∙◌}
use Rattle.binfarce.specs.MachoSelection as macho_file
use Rattle.binfarce.specs.SectionEntries.{SelectsSome}
use Rattle.binfarce.specs.SymbolViews.{section_function_view}
use Rattle.binfarce_tables.specs.ElfReading as elf
use Rattle.binfarce_tables.specs.MachoReading as macho
use Rattle.binfarce_tables.specs.PeReading as pe
use Rattle.binfarce_tools.specs.Tables.{AreTablesOf}
use Rattle.binfarce_tools.specs.declared.tables.Tables.{Tables}
use Rattle.binfarce_tools.proofs.TablesGive.{given, not_given, macho_memory, of_made, pe_memory, of_unknown, of_whole}
use Rattle.binfarce_tools.proofs.tables.Tables.functions.Goals as goal

pub returns-in-Unknown-clause-gets : goal.returns-in-Unknown-clause-gets
unfolding AreTablesOf
returns-in-Unknown-clause-gets c = λ which file section are.
    of_unknown which file section (subst (λ (t : Tables). AreTablesOf which file section t) c.in-Unknown.is are)

pub returns-in-Elf-clause-gets : goal.returns-in-Elf-clause-gets
unfolding AreTablesOf
returns-in-Elf-clause-gets c = λ which file section are.
    let is = subst (λ (t : Tables). AreTablesOf which file section t) c.in-Elf.is are in
    given which file section (elf.parts_view c.in-Elf.parts) c.of_elf.result is
    (c.of_elf.ensures.functions ∙ c.functions.ensures.entries, c.of_elf.ensures.size ∙ c.functions.ensures.size)

pub returns-in_ok-functions-in-Macho-clause-gets : goal.returns-in_ok-functions-in-Macho-clause-gets
unfolding AreTablesOf
returns-in_ok-functions-in-Macho-clause-gets c = λ which file section are.
    let is = subst (λ (t : Tables). AreTablesOf which file section t) c.in-Macho.is are in
    given which file section (macho_file.symbols_of (macho.parts_view c.in-Macho.parts)) c.listed.result is.1
    (c.listed.ensures.functions ∙ c.in_ok-functions-in-Macho.ensures, c.listed.ensures.size ∙ c.section_size.ensures)

pub returns-in_err-functions-in-Macho-clause-gets : goal.returns-in_err-functions-in-Macho-clause-gets
unfolding AreTablesOf
returns-in_err-functions-in-Macho-clause-gets c = λ which file section are.
    let is = subst (λ (t : Tables). AreTablesOf which file section t) c.in-Macho.is are in
    let t = macho.parts_view c.in-Macho.parts in
    not_given which file section (λ _. t.sections.sections ≢ []) (Ok (macho_file.symbols_of t)) c.in_err-functions-in-Macho.field-0.0 c.from_residual.result is.1
    (macho_memory which file section t (Ok (macho_file.symbols_of t)) is.0 is.2) tt c.in_err-functions-in-Macho.ensures c.from_residual.ensures.1

pub returns-in_ok-functions-in-Pe-clause-gets : goal.returns-in_ok-functions-in-Pe-clause-gets
unfolding AreTablesOf
returns-in_ok-functions-in-Pe-clause-gets c = λ which file section are.
    let is = subst (λ (t : Tables). AreTablesOf which file section t) c.in-Pe.is are in
    given which file section (pe.selected_view c.in-Pe.parts) c.listed-in-Pe.result is.1
    (c.listed-in-Pe.ensures.functions ∙ c.in_ok-functions-in-Pe.ensures, c.listed-in-Pe.ensures.size ∙ c.section_size-in-Pe.ensures)

pub returns-in_err-functions-in-Pe-clause-gets : goal.returns-in_err-functions-in-Pe-clause-gets
unfolding AreTablesOf
returns-in_err-functions-in-Pe-clause-gets c = λ which file section are.
    let is = subst (λ (t : Tables). AreTablesOf which file section t) c.in-Pe.is are in
    let answer = Ok (pe.selected_view c.in-Pe.parts) in
    not_given which file section SelectsSome answer c.in_err-functions-in-Pe.field-0.0 c.from_residual-in_err-functions-in-Pe.result is.1
    (pe_memory which file section answer is.0) tt c.in_err-functions-in-Pe.ensures c.from_residual-in_err-functions-in-Pe.ensures.1

pub returns-in-Whole-clause-gets : goal.returns-in-Whole-clause-gets
unfolding AreTablesOf
returns-in-Whole-clause-gets c = λ which file section are.
    let is = subst (λ (t : Tables). AreTablesOf which file section t) c.in-Whole.is are in
    of_whole which file section c.in-Whole.file.now c.in-Whole.section.now c.section_functions.result is c.section_functions.ensures

pub returns-in-Made-clause-gets : goal.returns-in-Made-clause-gets
returns-in-Made-clause-gets c = λ which file section are.
    let is = subst (λ (t : Tables). AreTablesOf which file section t) c.in-Made.is are in
    of_made which file section c.in-Made.functions c.in-Made.size c.in-Made.versions c.section_lent.result is (c.section_lent.ensures.functions ∙ ap (map section_function_view) c.deref.ensures.value) c.section_lent.ensures.size
