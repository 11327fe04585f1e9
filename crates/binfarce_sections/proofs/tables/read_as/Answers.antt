use Rattle.std.proofs.Common.{◌≡◌, ℕ, Bool, List, Some, sym, ap, subst, ◌∙◌}
use Rattle.binfarce_bytes.specs.Part.{Part}
use Rattle.binfarce.specs.declared.Format.{Format}
use Rattle.binfarce.specs.Elf.{elf32, elf64}
use Rattle.binfarce_pe.specs.PeNames.{strings_of}
use Rattle.binfarce_tables.specs.BeginningReading as beginning
use Rattle.binfarce_tables.specs.SectionReading.{file_sections, sections_view}
use Rattle.binfarce_sections.specs.Parts.{format_parts}
use Rattle.binfarce_sections.specs.Section.{macho_section, pe_section, mapped, sections_of}
use Rattle.binfarce_sections.proofs.TablesRead.{of_format, elf_walk, elf_is, elf_has, macho_is, macho_has, pe_is, pe_has, unread, unbegun}
use Rattle.binfarce_tables.proofs.Sure.{passed_only}
use Rattle.binfarce_bytes.specs.Source.{ReadsOnly}
use Rattle.binfarce_sections.proofs.tables.read_as.Goals as goal

-- a reading of the parts of a file of the format that it has
in_format : {sure : Part → Bool} {old new : (Part → Bool) → Bool} {R : Type 0} {format is : Format} (file : List ℕ)
    → format ≡ is → ReadsOnly sure old new (format_parts is file) R → ReadsOnly sure old new (format_parts format file) R
in_format {sure = sure} {old = old} {new = new} {R = R} file same reads = subst (λ (f : Format). ReadsOnly sure old new (format_parts f file) R) (sym same) reads

pub returns-in_ok-parts-in-Elf32-clause-reads : goal.returns-in_ok-parts-in-Elf32-clause-reads
unfolding sections_of
returns-in_ok-parts-in-Elf32-clause-reads g c = λ file known format_is.
    elf_has elf32 c.in-Elf32.byte_order file (sections_view c.in_ok-parts-in-Elf32.parts) (of_format file _ (sym format_is ∙ c.in-Elf32.is)) (c.in_ok-parts-in-Elf32.ensures.answer file known)

pub returns-in_ok-parts-in-Elf64-clause-reads : goal.returns-in_ok-parts-in-Elf64-clause-reads
unfolding sections_of
returns-in_ok-parts-in-Elf64-clause-reads g c = λ file known format_is.
    elf_has elf64 c.in-Elf64.byte_order file (sections_view c.in_ok-parts-in-Elf64.parts) (of_format file _ (sym format_is ∙ c.in-Elf64.is)) (c.in_ok-parts-in-Elf64.ensures.answer file known)

pub returns-in_err-parts-in-Elf32-clause-reads : goal.returns-in_err-parts-in-Elf32-clause-reads
unfolding sections_of
returns-in_err-parts-in-Elf32-clause-reads g c = λ file known format_is.
    unread (g.S.Source.may_fail c.args.source.now) sections_view elf_walk (file_sections elf32 c.in-Elf32.byte_order file) file _ _
    (of_format file _ (sym format_is ∙ c.in-Elf32.is) ∙ ap Some (elf_is elf32 c.in-Elf32.byte_order file)) (c.in_err-parts-in-Elf32.ensures.answer file known) c.from_residual.ensures

pub returns-in_err-parts-in-Elf64-clause-reads : goal.returns-in_err-parts-in-Elf64-clause-reads
unfolding sections_of
returns-in_err-parts-in-Elf64-clause-reads g c = λ file known format_is.
    unread (g.S.Source.may_fail c.args.source.now) sections_view elf_walk (file_sections elf64 c.in-Elf64.byte_order file) file _ _
    (of_format file _ (sym format_is ∙ c.in-Elf64.is) ∙ ap Some (elf_is elf64 c.in-Elf64.byte_order file)) (c.in_err-parts-in-Elf64.ensures.answer file known) c.from_residual-in_err-parts-in-Elf64.ensures

pub returns-in_ok-read_sections-in-Macho-clause-reads : goal.returns-in_ok-read_sections-in-Macho-clause-reads
unfolding sections_of
returns-in_ok-read_sections-in-Macho-clause-reads g c = λ file known format_is.
    let read = c.in_ok-read_sections-in-Macho.ensures.answer file known in
    (macho_has file c.in_ok-read_sections-in-Macho.field-0.bytes.items (of_format file _ (sym format_is ∙ c.in-Macho.is)) read.1, read.2)

pub returns-in_ok-read_sections-in-PE-clause-reads : goal.returns-in_ok-read_sections-in-PE-clause-reads
unfolding sections_of
returns-in_ok-read_sections-in-PE-clause-reads g c = λ file known format_is.
    let read = c.in_ok-read_sections-in-PE.ensures.answer file known in
    (pe_has file c.in_ok-read_sections-in-PE.field-0.beginning.bytes.items c.in_ok-read_sections-in-PE.field-0.strings.items (of_format file _ (sym format_is ∙ c.in-PE.is)) read.0.1 read.1, read.0.2)

pub returns-in_err-read_sections-in-Macho-clause-reads : goal.returns-in_err-read_sections-in-Macho-clause-reads
unfolding sections_of
returns-in_err-read_sections-in-Macho-clause-reads g c = λ file known format_is.
    unbegun (g.S.Source.may_fail c.args.source.now) (mapped macho_section) beginning.macho_sections file _ _
    (of_format file _ (sym format_is ∙ c.in-Macho.is) ∙ ap Some (macho_is file)) (c.in_err-read_sections-in-Macho.ensures.answer file known) c.from_residual-in_err-read_sections-in-Macho.ensures

pub returns-in_err-read_sections-in-PE-clause-reads : goal.returns-in_err-read_sections-in-PE-clause-reads
unfolding sections_of
returns-in_err-read_sections-in-PE-clause-reads g c = λ file known format_is.
    unbegun (g.S.Source.may_fail c.args.source.now) (mapped (pe_section (strings_of file))) beginning.pe_sections file _ _
    (of_format file _ (sym format_is ∙ c.in-PE.is) ∙ ap Some (pe_is (strings_of file) file)) (c.in_err-read_sections-in-PE.ensures.answer file known) c.from_residual-in_err-read_sections-in-PE.ensures

pub returns-in_err-parts-in-Elf32-clause-only : goal.returns-in_err-parts-in-Elf32-clause-only
unfolding format_parts
returns-in_err-parts-in-Elf32-clause-only g c = λ file known. passed_only _ (in_format file c.in-Elf32.is (c.in_err-parts-in-Elf32.ensures.only file known)) c.from_residual.ensures

pub returns-in_ok-parts-in-Elf32-clause-only : goal.returns-in_ok-parts-in-Elf32-clause-only
unfolding format_parts
returns-in_ok-parts-in-Elf32-clause-only g c = λ file known. in_format file c.in-Elf32.is (c.in_ok-parts-in-Elf32.ensures.only file known)

pub returns-in_err-parts-in-Elf64-clause-only : goal.returns-in_err-parts-in-Elf64-clause-only
unfolding format_parts
returns-in_err-parts-in-Elf64-clause-only g c = λ file known. passed_only _ (in_format file c.in-Elf64.is (c.in_err-parts-in-Elf64.ensures.only file known)) c.from_residual-in_err-parts-in-Elf64.ensures

pub returns-in_ok-parts-in-Elf64-clause-only : goal.returns-in_ok-parts-in-Elf64-clause-only
unfolding format_parts
returns-in_ok-parts-in-Elf64-clause-only g c = λ file known. in_format file c.in-Elf64.is (c.in_ok-parts-in-Elf64.ensures.only file known)

pub returns-in_err-read_sections-in-Macho-clause-only : goal.returns-in_err-read_sections-in-Macho-clause-only
unfolding format_parts
returns-in_err-read_sections-in-Macho-clause-only g c = λ file known. passed_only _ (in_format file c.in-Macho.is (c.in_err-read_sections-in-Macho.ensures.only file known)) c.from_residual-in_err-read_sections-in-Macho.ensures

pub returns-in_ok-read_sections-in-Macho-clause-only : goal.returns-in_ok-read_sections-in-Macho-clause-only
unfolding format_parts
returns-in_ok-read_sections-in-Macho-clause-only g c = λ file known. in_format file c.in-Macho.is (c.in_ok-read_sections-in-Macho.ensures.only file known)

pub returns-in_err-read_sections-in-PE-clause-only : goal.returns-in_err-read_sections-in-PE-clause-only
unfolding format_parts
returns-in_err-read_sections-in-PE-clause-only g c = λ file known. passed_only _ (in_format file c.in-PE.is (c.in_err-read_sections-in-PE.ensures.only file known)) c.from_residual-in_err-read_sections-in-PE.ensures

pub returns-in_ok-read_sections-in-PE-clause-only : goal.returns-in_ok-read_sections-in-PE-clause-only
unfolding format_parts
returns-in_ok-read_sections-in-PE-clause-only g c = λ file known. in_format file c.in-PE.is (c.in_ok-read_sections-in-PE.ensures.only file known)
