use Rattle.std.proofs.Common.{◌≡◌, List, ℕ, ap, ◌∙◌}
use Rattle.std.specs.Prelude.{Option}
use Rattle.binfarce_elf.specs.Classes.{class_of}
use Rattle.binfarce_bytes.specs.Walk.{Walk}
use Rattle.binfarce_elf.specs.Elf.{Section, walk}
use Rattle.binfarce_elf_memory.specs.ElfParts.{headers_alone}
use Rattle.binfarce_elf_memory.specs.Versions.{definitions_section, versions_section}
use Rattle.binfarce_tables.specs.SectionReading.{sections_view}
use Rattle.binfarce_tables.proofs.ElfSure.{of_row_versions, of_definitions}
use Rattle.binfarce_tables.proofs.Sure.{within, next, ending, passed_only, out_surely}
use Rattle.binfarce_tables.specs.declared.sections.SectionParts.{SectionParts}
use Rattle.binfarce_tables.proofs.elf.read_versions.Goals as goal

-- the section that is found among those of the headers is that among those of the file's parts, which have these headers
seen_is : (pick : Walk Section → Option Section) (s : SectionParts) (headers : List ℕ) (found : Option Section)
    → found ≡ pick (walk (class_of s.width) (headers_alone s.place.byte_order headers s.place.shnum)) → headers ≡ s.headers.items → found ≡ pick (sections_view s).sections
seen_is pick s headers found is same = is ∙ ap (λ (bytes : List ℕ). pick (walk (class_of s.width) (headers_alone s.place.byte_order bytes s.place.shnum))) same

pub returns-in_err-rows-clause-only : goal.returns-in_err-rows-clause-only
returns-in_err-rows-clause-only g c = λ file known.
    let s = c.args.sections.now in
    let rows_are = seen_is (versions_section c.args.which) s _ _ c.version_sections-found.ensures.versions c.deref.ensures.value in
    passed_only _ (within (λ P. of_row_versions P file c.args.which (sections_view s).sections _ rows_are) (c.in_err-rows.ensures.only file known)) c.from_residual.ensures

pub returns-in_err-definitions-clause-only : goal.returns-in_err-definitions-clause-only
returns-in_err-definitions-clause-only g c = λ file known.
    let s = c.args.sections.now in
    let rows_are = seen_is (versions_section c.args.which) s _ _ c.version_sections-found.ensures.versions c.deref.ensures.value in
    let names_are = seen_is (definitions_section c.args.which) s _ _ c.version_sections-found.ensures.definitions c.deref.ensures.value in
    passed_only _ (next (within (λ P. of_row_versions P file c.args.which (sections_view s).sections _ rows_are) (c.in_ok-rows.ensures.only file known))
    (within (λ P. of_definitions P file c.args.which (sections_view s).sections _ names_are) (c.in_err-definitions.ensures.only file known))) c.from_residual-in_err-definitions.ensures

pub returns-in_err-names-clause-only : goal.returns-in_err-names-clause-only
returns-in_err-names-clause-only g c = λ file known.
    let s = c.args.sections.now in
    let rows_are = seen_is (versions_section c.args.which) s _ _ c.version_sections-found.ensures.versions c.deref.ensures.value in
    let names_are = seen_is (definitions_section c.args.which) s _ _ c.version_sections-found.ensures.definitions c.deref.ensures.value in
    ending (next (within (λ P. of_row_versions P file c.args.which (sections_view s).sections _ rows_are) (c.in_ok-rows.ensures.only file known))
    (within (λ P. of_definitions P file c.args.which (sections_view s).sections _ names_are) (c.in_ok-definitions.ensures.only file known)))
    (out_surely c.from_residual-in_err-names.result c.from_residual-in_err-names.ensures)

pub returns-clause-only : goal.returns-clause-only
returns-clause-only g c = λ file known.
    let s = c.args.sections.now in
    let rows_are = seen_is (versions_section c.args.which) s _ _ c.version_sections-found.ensures.versions c.deref.ensures.value in
    let names_are = seen_is (definitions_section c.args.which) s _ _ c.version_sections-found.ensures.definitions c.deref.ensures.value in
    next (within (λ P. of_row_versions P file c.args.which (sections_view s).sections _ rows_are) (c.in_ok-rows.ensures.only file known))
    (within (λ P. of_definitions P file c.args.which (sections_view s).sections _ names_are) (c.in_ok-definitions.ensures.only file known))
