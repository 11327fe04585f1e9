use Rattle.std.proofs.Common.{◌≡◌, ℕ, List, Option, Result, Ok, Err, ap, ap₂, sym, ◌∙◌}
use Rattle.std.specs.BTreeMap.{get}
use Rattle.std.specs.Ordering.{nat_cmp}
use Rattle.std.specs.Option.{option_map}
use Rattle.binfarce_bytes.specs.Refusal.{◌>>=◌, Refusal}
use Rattle.binfarce_bytes.specs.SectionEntries.{SectionEntry}
use Rattle.binfarce_bytes.specs.Selection.{section_of}
use Rattle.binfarce_elf.specs.Classes.{class_of}
use Rattle.binfarce_elf.specs.Elf.{walk}
use Rattle.binfarce_elf.specs.declared.symbol_table.SymbolTable.{SymbolTable}
use Rattle.binfarce_elf_memory.specs.ElfEnds.{has_modes}
use Rattle.binfarce_elf_memory.specs.ElfParts.{headers_alone}
use Rattle.binfarce_elf_memory.specs.SelectionViews.{kind_view, needed_view, sized_from}
use Rattle.binfarce_elf_memory.specs.ElfSelection.{NeededSections, Taken, needed, selected_file_answer, symbols_of, taken_from}
use Rattle.binfarce_elf.specs.SymbolTables.{TableRows}
use Rattle.binfarce_elf_memory.specs.Versions.{bytes_if, name_by, versions_section}
use Rattle.binfarce_tables.specs.ElfReading.{parts_view, symbols_by}
use Rattle.binfarce_tables.specs.Reading.{Reads}
use Rattle.binfarce_tables.specs.declared.error.ReadError.TheVariants.{OutOfMemory}
use Rattle.binfarce_tables.specs.declared.elf.VersionParts.{VersionParts}
use Rattle.binfarce_tables.specs.declared.sections.SectionParts.{SectionParts}
use Rattle.binfarce_tables.specs.SectionReading.{file_sections, sections_view}
use Rattle.binfarce_tables.specs.machine.Places.{rows_in_file, rows_view}
use Rattle.binfarce_tables.proofs.ElfSure.{of_file_header, of_sections, of_versions}
use Rattle.binfarce_tables.proofs.Located.{after_found, after_needed, after_sections, from_file, from_seen, from_needed, needed_of, of_placed, table_found, walk_is}
use Rattle.binfarce_tables.proofs.Readings.{after_err, instead, converted, err_is, passed, taken}
use Rattle.binfarce_tables.proofs.VersionsRead.{symbols_in, versions_read}
use Rattle.binfarce_tables.proofs.Sure.{unmeasured, within, next, ending, passed_only, converted_surely, out_surely}
use Rattle.binfarce_tables.proofs.elf.read.Goals as goal

-- what a selection needs of the sections that were read
needed_is : (s : SectionParts) (which : SymbolTable) (section : Option (List ℕ)) (headers : List ℕ) (names : Option (List ℕ)) (answer : Result NeededSections Refusal)
    → headers ≡ s.headers.items → names ≡ option_map (λ v. v.items) s.names
    → needed which (walk (class_of s.width) (headers_alone s.place.byte_order headers s.place.shnum)) names s.place.shnum section ≡ answer → needed_of which section (sections_view s) ≡ answer
needed_is s which section headers names answer same named is =
    sym (ap₂ (λ (bytes : List ℕ) (names : Option (List ℕ)). needed which (walk (class_of s.width) (headers_alone s.place.byte_order bytes s.place.shnum)) names s.place.shnum section) same named) ∙ is

-- what it takes by the sizes of all rows
sizes_are : (s : SectionParts) (taken : Taken) (found : TableRows) (versions sizes : List ℕ) (version_name : ℕ → Option (List ℕ)) (headers rows strings : List ℕ)
    → headers ≡ s.headers.items → rows ≡ found.rows → strings ≡ found.strings
    → sized_from (class_of s.width) s.place.byte_order taken (has_modes (kind_view s.place.kind)) (record { strings = strings; rows = rows }) versions sizes 0
    ≡ taken_from (class_of s.width) s.place.byte_order (walk (class_of s.width) (headers_alone s.place.byte_order headers s.place.shnum)) (kind_view s.place.kind) taken (record { strings = strings; rows = rows }) versions
    → symbols_by (sections_view s) taken found versions sizes version_name ≡ symbols_in (sections_view s) taken found versions version_name
sizes_are s taken found versions sizes version_name headers rows strings same as_rows as_strings is =
    let seen = sections_view s in
    ap (λ (entries : List SectionEntry). symbols_of (record { entries = entries; taken = taken; strings = found.strings }) seen.names seen.sections seen.kind.elf_type version_name) (rw (same, as_rows, as_strings) at is)

pub returns-in_err-sections-clause-answer : goal.returns-in_err-sections-clause-answer
returns-in_err-sections-clause-answer g c = λ file known.
    let is_known = c.in_ok-opened.ensures.known file known in
    let class = class_of c.args.width in
    let fails = g.S.Source.may_fail c.in_ok-opened.opened.source.now in
    let section = section_of c.args.selection in
    let answer = selected_file_answer c.args.which class c.args.byte_order file section in
    let e = c.in_err-sections.field-0.0 in
    rw c.in_ok-opened.ensures.source at (passed fails parts_view answer e c.from_residual-in_err-sections.result c.from_residual-in_err-sections.ensures
    (instead fails parts_view answer _ (Err e) (from_file c.args.which class c.args.byte_order file section)
    (after_err fails sections_view parts_view (file_sections class c.args.byte_order file) (after_sections c.args.which section file) e (c.in_err-sections.ensures.answer file is_known))))

pub returns-in_err-needed-clause-answer : goal.returns-in_err-needed-clause-answer
returns-in_err-needed-clause-answer g c = λ file known.
    let is_known = c.in_ok-opened.ensures.known file known in
    let class = class_of c.args.width in
    let seen = sections_view c.in_ok-sections.sections in
    rw c.in_ok-opened.ensures.source at (converted (g.S.Source.may_fail c.in_ok-opened.opened.source.now) parts_view _ c.in_err-needed.field-0.0 c.from_residual-in_err-needed.result c.from_residual-in_err-needed.ensures
    (from_seen c.args.which class c.args.byte_order file (section_of c.args.selection) seen (c.in_ok-sections.ensures.answer file is_known)
    ∙ ap (λ (a : Result NeededSections Refusal). a >>= after_needed c.args.which file seen) (needed_is c.in_ok-sections.sections c.args.which (section_of c.args.selection) _ _ _ c.deref.ensures.value c.as_deref-names.ensures.value c.in_err-needed.ensures)))

pub returns-in_err-table-clause-answer : goal.returns-in_err-table-clause-answer
returns-in_err-table-clause-answer g c = λ file known.
    let is_known = c.in_ok-opened.ensures.known file known in
    let class = class_of c.args.width in
    let fails = g.S.Source.may_fail c.in_ok-opened.opened.source.now in
    let section = section_of c.args.selection in
    let seen = sections_view c.in_ok-sections.sections in
    let given = c.in_ok-sections.ensures.answer file is_known in
    let n = needed_view c.in_ok-needed.needed in
    let answer = selected_file_answer c.args.which class c.args.byte_order file section in
    let e = c.in_err-table.field-0.0 in
    rw c.in_ok-opened.ensures.source at (passed fails parts_view answer e c.from_residual-in_err-table.result c.from_residual-in_err-table.ensures
    (instead fails parts_view answer (after_needed c.args.which file seen n) (Err e) (from_needed c.args.which class c.args.byte_order file section seen given n (needed_is c.in_ok-sections.sections c.args.which (section_of c.args.selection) _ _ _ c.deref.ensures.value c.as_deref-names.ensures.value c.in_ok-needed.ensures))
    (after_err fails rows_view parts_view (rows_in_file file seen n) (λ found. Ok (after_found c.args.which file seen n found)) e (c.in_err-table.ensures.answer file is_known))))

pub returns-in_err-versions-clause-answer : goal.returns-in_err-versions-clause-answer
returns-in_err-versions-clause-answer g c = λ file known.
    let is_known = c.in_ok-opened.ensures.known file known in
    let class = class_of c.args.width in
    let fails = g.S.Source.may_fail c.in_ok-opened.opened.source.now in
    let section = section_of c.args.selection in
    let seen = sections_view c.in_ok-sections.sections in
    let given = c.in_ok-sections.ensures.answer file is_known in
    let n = needed_view c.in_ok-needed.needed in
    let answer = selected_file_answer c.args.which class c.args.byte_order file section in
    let e = c.in_err-versions.field-0.0 in
    let shown = after_found c.args.which file seen n (rows_view c.in_ok-table.table) in
    rw c.in_ok-opened.ensures.source at (passed fails parts_view answer e c.from_residual-in_err-versions.result c.from_residual-in_err-versions.ensures
    (instead fails parts_view answer (Ok shown) (Err e)
    (from_needed c.args.which class c.args.byte_order file section seen given n (needed_is c.in_ok-sections.sections c.args.which (section_of c.args.selection) _ _ _ c.deref.ensures.value c.as_deref-names.ensures.value c.in_ok-needed.ensures)
    ∙ ap (λ (a : Result TableRows Refusal). a >>= λ found. Ok (after_found c.args.which file seen n found)) (c.in_ok-table.ensures.answer file is_known))
    (after_err fails (λ (v : VersionParts). v.rows.items) parts_view (Ok (bytes_if file (versions_section c.args.which seen.sections))) (λ bytes. Ok shown) e (c.in_err-versions.ensures.rows file is_known))))

pub returns-clause-answer : goal.returns-clause-answer
returns-clause-answer g c = λ file known.
    let is_known = c.in_ok-opened.ensures.known file known in
    let class = class_of c.args.width in
    let section = section_of c.args.selection in
    let seen = sections_view c.in_ok-sections.sections in
    let given = c.in_ok-sections.ensures.answer file is_known in
    let n = needed_view c.in_ok-needed.needed in
    let rows = rows_view c.in_ok-table.table in
    let versions = c.in_ok-versions.versions in
    from_needed c.args.which class c.args.byte_order file section seen given n (needed_is c.in_ok-sections.sections c.args.which (section_of c.args.selection) _ _ _ c.deref.ensures.value c.as_deref-names.ensures.value c.in_ok-needed.ensures)
    ∙ ap (λ (a : Result TableRows Refusal). a >>= λ found. Ok (after_found c.args.which file seen n found)) (c.in_ok-table.ensures.answer file is_known)
    ∙ ap Ok (versions_read c.args.which file seen n.taken rows versions.rows.items versions.names (taken (c.in_ok-versions.ensures.rows file is_known)) (c.in_ok-versions.ensures.names file is_known)
    ∙ sym (sizes_are c.in_ok-sections.sections n.taken rows versions.rows.items c.in_ok-sizes.sizes.items (name_by rows.strings (get nat_cmp versions.names)) _ _ _ c.deref-2.ensures.value c.deref-3.ensures.value c.deref-4.ensures.value
    (c.in_ok-sizes.ensures versions.rows.items)))

pub returns-in_err-sections-clause-only : goal.returns-in_err-sections-clause-only
returns-in_err-sections-clause-only g c = λ file known.
    let is_known = c.in_ok-opened.ensures.known file known in
    rw c.in_ok-opened.ensures.source at (passed_only _ (within (λ P. of_sections P (class_of c.args.width) c.args.byte_order file c.args.which) (c.in_err-sections.ensures.only file is_known)) c.from_residual-in_err-sections.ensures)

pub returns-in_err-needed-clause-only : goal.returns-in_err-needed-clause-only
returns-in_err-needed-clause-only g c = λ file known.
    let is_known = c.in_ok-opened.ensures.known file known in
    rw c.in_ok-opened.ensures.source at (ending (within (λ P. of_sections P (class_of c.args.width) c.args.byte_order file c.args.which) (c.in_ok-sections.ensures.only file is_known))
    (converted_surely c.in_err-needed.field-0.0 c.from_residual-in_err-needed.result c.from_residual-in_err-needed.ensures))

pub returns-in_err-table-clause-only : goal.returns-in_err-table-clause-only
returns-in_err-table-clause-only g c = λ file known.
    let is_known = c.in_ok-opened.ensures.known file known in
    let class = class_of c.args.width in
    let section = section_of c.args.selection in
    let seen = sections_view c.in_ok-sections.sections in
    let given = c.in_ok-sections.ensures.answer file is_known in
    let n = needed_view c.in_ok-needed.needed in
    let found = table_found c.args.which class c.args.byte_order file section seen given n (needed_is c.in_ok-sections.sections c.args.which (section_of c.args.selection) _ _ _ c.deref.ensures.value c.as_deref-names.ensures.value c.in_ok-needed.ensures) in
    rw c.in_ok-opened.ensures.source at (passed_only _ (next (within (λ P. of_sections P class c.args.byte_order file c.args.which) (c.in_ok-sections.ensures.only file is_known))
    (within (λ P. of_placed c.args.which class c.args.byte_order file section seen given P n found) (c.in_err-table.ensures.only file is_known))) c.from_residual-in_err-table.ensures)

pub returns-in_err-versions-clause-only : goal.returns-in_err-versions-clause-only
returns-in_err-versions-clause-only g c = λ file known.
    let is_known = c.in_ok-opened.ensures.known file known in
    let class = class_of c.args.width in
    let section = section_of c.args.selection in
    let seen = sections_view c.in_ok-sections.sections in
    let given = c.in_ok-sections.ensures.answer file is_known in
    let n = needed_view c.in_ok-needed.needed in
    let found = table_found c.args.which class c.args.byte_order file section seen given n (needed_is c.in_ok-sections.sections c.args.which (section_of c.args.selection) _ _ _ c.deref.ensures.value c.as_deref-names.ensures.value c.in_ok-needed.ensures) in
    rw c.in_ok-opened.ensures.source at (passed_only _ (next (within (λ P. of_sections P class c.args.byte_order file c.args.which) (c.in_ok-sections.ensures.only file is_known))
    (next (within (λ P. of_placed c.args.which class c.args.byte_order file section seen given P n found) (c.in_ok-table.ensures.only file is_known))
    (within (λ P. of_versions P class c.args.byte_order file c.args.which seen.sections (walk_is c.args.which class c.args.byte_order file section seen given)) (c.in_err-versions.ensures.only file is_known))))
    c.from_residual-in_err-versions.ensures)

pub returns-clause-only : goal.returns-clause-only
returns-clause-only g c = λ file known.
    let is_known = c.in_ok-opened.ensures.known file known in
    let class = class_of c.args.width in
    let section = section_of c.args.selection in
    let seen = sections_view c.in_ok-sections.sections in
    let given = c.in_ok-sections.ensures.answer file is_known in
    let n = needed_view c.in_ok-needed.needed in
    let found = table_found c.args.which class c.args.byte_order file section seen given n (needed_is c.in_ok-sections.sections c.args.which (section_of c.args.selection) _ _ _ c.deref.ensures.value c.as_deref-names.ensures.value c.in_ok-needed.ensures) in
    rw c.in_ok-opened.ensures.source at (next (within (λ P. of_sections P class c.args.byte_order file c.args.which) (c.in_ok-sections.ensures.only file is_known))
    (next (within (λ P. of_placed c.args.which class c.args.byte_order file section seen given P n found) (c.in_ok-table.ensures.only file is_known))
    (within (λ P. of_versions P class c.args.byte_order file c.args.which seen.sections (walk_is c.args.which class c.args.byte_order file section seen given)) (c.in_ok-versions.ensures.only file is_known))))

pub returns-in_err-sizes-clause-answer : goal.returns-in_err-sizes-clause-answer
returns-in_err-sizes-clause-answer g c = λ file known.
    let is_known = c.in_ok-opened.ensures.known file known in
    let answer = selected_file_answer c.args.which (class_of c.args.width) c.args.byte_order file (section_of c.args.selection) in
    rw c.in_ok-opened.ensures.source at (err_is (Reads (g.S.Source.may_fail c.in_ok-opened.opened.source.now) parts_view answer) c.from_residual-in_err-sizes.result OutOfMemory c.from_residual-in_err-sizes.ensures tt)

pub returns-in_err-sizes-clause-only : goal.returns-in_err-sizes-clause-only
returns-in_err-sizes-clause-only g c = λ file known.
    let is_known = c.in_ok-opened.ensures.known file known in
    let class = class_of c.args.width in
    let section = section_of c.args.selection in
    let seen = sections_view c.in_ok-sections.sections in
    let given = c.in_ok-sections.ensures.answer file is_known in
    let n = needed_view c.in_ok-needed.needed in
    let found = table_found c.args.which class c.args.byte_order file section seen given n (needed_is c.in_ok-sections.sections c.args.which (section_of c.args.selection) _ _ _ c.deref.ensures.value c.as_deref-names.ensures.value c.in_ok-needed.ensures) in
    rw c.in_ok-opened.ensures.source at (ending (next (within (λ P. of_sections P class c.args.byte_order file c.args.which) (c.in_ok-sections.ensures.only file is_known))
    (next (within (λ P. of_placed c.args.which class c.args.byte_order file section seen given P n found) (c.in_ok-table.ensures.only file is_known))
    (within (λ P. of_versions P class c.args.byte_order file c.args.which seen.sections (walk_is c.args.which class c.args.byte_order file section seen given)) (c.in_ok-versions.ensures.only file is_known))))
    (out_surely c.from_residual-in_err-sizes.result c.from_residual-in_err-sizes.ensures))

pub returns-in_err-opened-clause-only : goal.returns-in_err-opened-clause-only
returns-in_err-opened-clause-only g c = λ file known.
    let class = class_of c.args.width in
    unmeasured _ (λ P all. of_file_header P class c.args.byte_order file (of_sections P class c.args.byte_order file c.args.which all)) c.in_err-opened.ensures.unsure
