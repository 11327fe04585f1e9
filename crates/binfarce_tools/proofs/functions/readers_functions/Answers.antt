use Rattle.std.proofs.Common.{◌≡◌, ◌⊎◌, inl, inr, ℕ, List, Some, Result, refl, sym, ◌∙◌}
use Rattle.binfarce.specs.declared.ByteOrder.{ByteOrder}
use Rattle.binfarce.specs.declared.Format.{Format}
use Rattle.binfarce.specs.declared.Format.TheVariants.{Elf32, Elf64, Macho, PE, Unknown}
use Rattle.binfarce.specs.Format.{format_of}
use Rattle.binfarce.specs.MachoSymbols.{macho_file_answer}
use Rattle.binfarce.specs.PeSymbols.{pe_file_answer}
use Rattle.binfarce.specs.declared.SymbolTable.TheVariants.{Symtab}
use Rattle.binfarce_tools.specs.Entries.{GetsAs, GetsIn, HoldsText}
use Rattle.binfarce_tools.specs.declared.functions.Selected.{Selected}
use Rattle.binfarce_tools.specs.declared.list.ListError.{ListError}
use Rattle.binfarce_tools.specs.SectionAnswer.{NeedsMemory, format_answer, readers_answer, ReaderNeedsMemory}
use Rattle.binfarce_tools.proofs.Listings.{reader_refused}
use Rattle.binfarce_tools.proofs.Reported.{reported_macho, reported_pe}
use Rattle.binfarce_tools.proofs.SectionAnswers.{of_elf32, of_elf64, of_unknown}
use Rattle.binfarce_tools.proofs.functions.readers_functions.Goals as goal

pub returns-in_err-text_of_macho-in-Macho : goal.returns-in_err-text_of_macho-in-Macho
unfolding format_answer ReaderNeedsMemory
returns-in_err-text_of_macho-in-Macho c =
    let file = c.args.file.now in
    reader_refused Macho (format_of file) file c.args.section.now (macho_file_answer file) c.in_err-text_of_macho-in-Macho.field-0.0 c.from_residual.result c.in-Macho.ensures refl
    (reported_macho file) c.in_err-text_of_macho-in-Macho.ensures c.from_residual.ensures.1

pub returns-in_err-text_of_pe-in-PE : goal.returns-in_err-text_of_pe-in-PE
unfolding format_answer ReaderNeedsMemory
returns-in_err-text_of_pe-in-PE c =
    let file = c.args.file.now in
    reader_refused PE (format_of file) file c.args.section.now (pe_file_answer file) c.in_err-text_of_pe-in-PE.field-0.0 c.from_residual-in_err-text_of_pe-in-PE.result c.in-PE.ensures refl
    (reported_pe file) c.in_err-text_of_pe-in-PE.ensures c.from_residual-in_err-text_of_pe-in-PE.ensures.1

-- a file of any other format
of_other : (file section : List ℕ) (result : Result Selected ListError) (found : Format) → found ≡ format_of file → GetsIn Symtab file (Some section) result
    → ((order : ByteOrder) × (found ≡ Elf32 order)) ⊎ (((order : ByteOrder) × (found ≡ Elf64 order)) ⊎ (found ≡ Unknown)) → GetsAs HoldsText (NeedsMemory file) (readers_answer file section) result
of_other file section result found same gets (inl is) = of_elf32 file section result gets is.0 (sym same ∙ is.1)
of_other file section result found same gets (inr (inl is)) = of_elf64 file section result gets is.0 (sym same ∙ is.1)
of_other file section result found same gets (inr (inr is)) = of_unknown file section result gets (sym same ∙ is)

pub returns-in-Elf32 : goal.returns-in-Elf32
returns-in-Elf32 c = of_other c.args.file.now c.args.section.now c.section_functions.result c.detect_format.result c.detect_format.ensures c.section_functions.ensures c.in-Elf32.is
