use Rattle.std.proofs.Common.{Some, refl, subst}
use Rattle.binfarce.specs.declared.Format.TheVariants.{Elf32, Elf64, Macho, PE}
use Rattle.binfarce.specs.Format.{format_of}
use Rattle.binfarce.specs.Elf.{elf32, elf64}
use Rattle.binfarce.specs.ElfSelection as elf
use Rattle.binfarce.specs.MachoSelection as macho
use Rattle.binfarce.specs.PeSelection as pe
use Rattle.binfarce.specs.SectionEntries.{as_listed}
use Rattle.binfarce.specs.declared.SymbolTable.TheVariants.{Symtab}
use Rattle.binfarce_tools.specs.Answer.{selected_symbols, NeedsMemory}
use Rattle.binfarce_tools.proofs.Reported.{Reported, reported_elf, reported_list, reported_macho_selected, reported_pe_selected}
use Rattle.binfarce_tools.proofs.Selected.{elf_listed}
use Rattle.binfarce_tools.proofs.Listings.{refused}
use Rattle.binfarce_tools.proofs.functions.section_functions.Goals as goal

pub returns-in_err-functions_of_elf-in-Elf32 : goal.returns-in_err-functions_of_elf-in-Elf32
unfolding selected_symbols NeedsMemory
returns-in_err-functions_of_elf-in-Elf32 c =
    let file = c.args.file.now in
    let section = c.args.section.now in
    let order = c.in-Elf32.byte_order in
    let answer = elf.selected_file_answer Symtab elf32 order file (Some section) in
    refused (Elf32 order) (format_of file) file section answer c.in_err-functions_of_elf-in-Elf32.field-0.0 c.from_residual.result c.in-Elf32.ensures refl
    (reported_list answer as_listed (subst Reported (elf_listed elf32 order file section) (reported_elf elf32 order file section))) c.in_err-functions_of_elf-in-Elf32.ensures c.from_residual.ensures.1

pub returns-in_err-functions_of_elf-in-Elf64 : goal.returns-in_err-functions_of_elf-in-Elf64
unfolding selected_symbols NeedsMemory
returns-in_err-functions_of_elf-in-Elf64 c =
    let file = c.args.file.now in
    let section = c.args.section.now in
    let order = c.in-Elf64.byte_order in
    let answer = elf.selected_file_answer Symtab elf64 order file (Some section) in
    refused (Elf64 order) (format_of file) file section answer c.in_err-functions_of_elf-in-Elf64.field-0.0 c.from_residual-in_err-functions_of_elf-in-Elf64.result c.in-Elf64.ensures refl
    (reported_list answer as_listed (subst Reported (elf_listed elf64 order file section) (reported_elf elf64 order file section))) c.in_err-functions_of_elf-in-Elf64.ensures c.from_residual-in_err-functions_of_elf-in-Elf64.ensures.1

pub returns-in_err-functions_of_macho-in-Macho : goal.returns-in_err-functions_of_macho-in-Macho
unfolding selected_symbols NeedsMemory
returns-in_err-functions_of_macho-in-Macho c =
    let file = c.args.file.now in
    let section = c.args.section.now in
    let answer = macho.selected_file_answer (Some section) file in
    refused Macho (format_of file) file section answer c.in_err-functions_of_macho-in-Macho.field-0.0 c.from_residual-in_err-functions_of_macho-in-Macho.result c.in-Macho.ensures refl
    (reported_macho_selected (Some section) file) c.in_err-functions_of_macho-in-Macho.ensures c.from_residual-in_err-functions_of_macho-in-Macho.ensures.1

pub returns-in_err-functions_of_pe-in-PE : goal.returns-in_err-functions_of_pe-in-PE
unfolding selected_symbols NeedsMemory
returns-in_err-functions_of_pe-in-PE c =
    let file = c.args.file.now in
    let section = c.args.section.now in
    let answer = pe.selected_file_answer (Some section) file in
    refused PE (format_of file) file section answer c.in_err-functions_of_pe-in-PE.field-0.0 c.from_residual-in_err-functions_of_pe-in-PE.result c.in-PE.ensures refl
    (reported_pe_selected (Some section) file) c.in_err-functions_of_pe-in-PE.ensures c.from_residual-in_err-functions_of_pe-in-PE.ensures.1
