use Rattle.std.proofs.Common.{◌≡◌, ◌++◌, ℕ, Vec, Global, List, Option, Some, None, Result, Ok, Err, refl, ap, ap₂, sym, subst, ◌∙◌}
use Rattle.std.specs.Prelude.{All}
use Rattle.binfarce_bytes.specs.Part.{Part, parts_if}
use Rattle.binfarce_bytes.specs.declared.ByteOrder.{ByteOrder}
use Rattle.std.specs.Option.{option_map}
use Rattle.binfarce_bytes.specs.Refusal.{◌>>=◌, Refusal}
use Rattle.binfarce_elf.specs.Classes.{class_of}
use Rattle.binfarce_elf.specs.Elf.{Section, SectionTable, walk}
use Rattle.binfarce_elf.specs.ElfViews.{section_view}
use Rattle.binfarce_elf.specs.SymbolTables.{TableRows, rows_at}
use Rattle.binfarce_elf_memory.specs.Descriptors.{rows_by, rows_in_code, stored}
use Rattle.binfarce_elf_memory.specs.ElfParts.{headers_alone}
use Rattle.binfarce_elf_memory.specs.ElfSelection.{NeededSections, needed_descriptors, placed, rows_taken}
use Rattle.binfarce_elf_memory.specs.SelectionViews.{kind_view, needed_view}
use Rattle.binfarce_elf_memory.specs.Versions.{bytes_if}
use Rattle.binfarce_tables.specs.ElfReads.{descriptor_parts, rows_parts, section_parts}
use Rattle.binfarce_tables.specs.Reading.{Reads}
use Rattle.binfarce_tables.specs.SectionReading.{FileSections, sections_view}
use Rattle.binfarce_tables.specs.declared.error.ReadError.TheVariants.{OutOfMemory}
use Rattle.binfarce_tables.specs.declared.sections.SectionParts.{SectionParts}
use Rattle.binfarce_tables.specs.machine.Places.{rows_in_file, rows_view}
use Rattle.binfarce_tables.proofs.Readings.{after_err, instead, err_is, passed, taken}
use Rattle.binfarce_tables.proofs.Sure.{front, back, within, next, ending, passed_only, out_surely}
use Rattle.binfarce_tables.proofs.elf.read_placed.Goals as goal

-- the section of the descriptors of these sections
abbrev wanted : FileSections → NeededSections → Option Section
wanted seen needs = needed_descriptors seen.class seen.sections seen.names seen.kind needs.taken

abbrev as_placed : List ℕ → FileSections → NeededSections → TableRows → Result TableRows Refusal
as_placed file seen needs found = Ok (placed seen.class seen.order seen.sections seen.names seen.kind file needs.taken found)

-- what follows the rows
pub from_table : (file : List ℕ) (seen : FileSections) (needs : NeededSections) → rows_in_file file seen needs ≡ (rows_at seen.class file needs.table >>= as_placed file seen needs)
unfolding rows_taken
from_table file seen needs = refl

module _ (file : List ℕ) (seen : FileSections) (needs : NeededSections) (found : TableRows) (is : rows_at seen.class file needs.table ≡ Ok found) where
  from_rows : rows_in_file file seen needs ≡ as_placed file seen needs found
  from_rows = from_table file seen needs ∙ ap (λ (a : Result TableRows Refusal). a >>= as_placed file seen needs) is

  by_section : (o : Option Section) → wanted seen needs ≡ o → rows_in_file file seen needs ≡ Ok (record { strings = found.strings; rows = rows_by seen.order seen.sections file o found.rows })
  by_section o same = from_rows ∙ ap (λ (o : Option Section). Ok (record { strings = found.strings; rows = rows_by seen.order seen.sections file o found.rows })) same

-- the section that was found among the headers that were read
wanted_is : (s : SectionParts) (needs : NeededSections) (headers : List ℕ) (names : Option (List ℕ)) (table : SectionTable) (found : Option Section)
    → found ≡ needed_descriptors (class_of s.width) (walk (class_of s.width) table) names (kind_view s.place.kind) needs.taken
    → table ≡ headers_alone s.place.byte_order headers s.place.shnum → headers ≡ s.headers.items → names ≡ option_map (λ v. v.items) s.names → wanted (sections_view s) needs ≡ found
wanted_is s needs headers names table found is alone same named =
    let by_table : SectionTable → Option (List ℕ) → Option Section = λ t names. needed_descriptors (class_of s.width) (walk (class_of s.width) t) names (kind_view s.place.kind) needs.taken in
    sym (is ∙ ap₂ by_table (alone ∙ ap (λ (bytes : List ℕ). headers_alone s.place.byte_order bytes s.place.shnum) same) named)

-- the rows that were made of them
made_is : (s : SectionParts) (table : SectionTable) (order : ByteOrder) (headers : List ℕ) (section : Section) (descriptors kept rows found made : List ℕ)
    → made ≡ rows_in_code order (walk (class_of s.width) table) section descriptors rows → order ≡ table.order → table ≡ headers_alone s.place.byte_order headers s.place.shnum
    → headers ≡ s.headers.items → descriptors ≡ kept → rows ≡ found → made ≡ rows_in_code (sections_view s).order (sections_view s).sections section kept found
made_is s table order headers section descriptors kept rows found made is in_order alone same as_kept as_found =
    let alone_is : table ≡ headers_alone s.place.byte_order s.headers.items s.place.shnum = alone ∙ ap (λ (bytes : List ℕ). headers_alone s.place.byte_order bytes s.place.shnum) same in
    is ∙ ap₂ (λ (o : ByteOrder) (t : SectionTable). rows_in_code o (walk (class_of s.width) t) section descriptors rows) (in_order ∙ ap (λ (t : SectionTable). t.order) alone_is) alone_is
    ∙ ap₂ (λ (bytes rows : List ℕ). rows_in_code (sections_view s).order (sections_view s).sections section bytes rows) as_kept as_found

-- of its bytes
of_stored : (P : Part → Type 0) (file : List ℕ) (rows : List Part) (o : Option Section) (s : Section) (kept : Option Section) → o ≡ Some s → kept ≡ stored s → All P (rows ++ descriptor_parts file o)
    → All P (parts_if kept (section_parts file))
of_stored P file rows o s kept is same all =
    subst (λ (k : Option Section). All P (parts_if k (section_parts file))) (sym same) (subst (λ (o : Option Section). All P (descriptor_parts file o)) is (back P rows (descriptor_parts file o) all))

pub returns-in_err-table-clause-answer : goal.returns-in_err-table-clause-answer
returns-in_err-table-clause-answer g c = λ file known.
    let fails = g.S.Source.may_fail c.args.opened.now.source.now in
    let seen = sections_view c.args.sections.now in
    let n = needed_view c.args.needed in
    let e = c.in_err-table.field-0.0 in
    passed fails rows_view _ e c.from_residual.result c.from_residual.ensures
    (instead fails rows_view (rows_in_file file seen n) _ (Err e) (from_table file seen n)
    (after_err fails rows_view rows_view (rows_at seen.class file n.table) (as_placed file seen n) e (c.in_err-table.ensures.answer file known)))

pub returns-in_default-clause-answer : goal.returns-in_default-clause-answer
returns-in_default-clause-answer g c = λ file known.
    let s = c.args.sections.now in
    let n = needed_view c.args.needed in
    let is = wanted_is s n _ _ _ _ c.needed_descriptors-found.ensures c.headers_alone-headers.ensures c.deref.ensures.value c.as_deref-names.ensures.value in
    by_section file (sections_view s) n (rows_view c.in_ok-table.table) (c.in_ok-table.ensures.answer file known) None (is ∙ ap (option_map (section_view (λ n. n))) c.in_default.is)

pub returns-in_err-descriptors-clause-answer : goal.returns-in_err-descriptors-clause-answer
returns-in_err-descriptors-clause-answer g c = λ file known.
    let fails = g.S.Source.may_fail c.args.opened.now.source.now in
    let s = c.args.sections.now in
    let seen = sections_view s in
    let n = needed_view c.args.needed in
    let found = rows_view c.in_ok-table.table in
    let section = section_view (λ n. n) c.in-Some.section in
    let is = wanted_is s n _ _ _ _ c.needed_descriptors-found.ensures c.headers_alone-headers.ensures c.deref.ensures.value c.as_deref-names.ensures.value ∙ ap (option_map (section_view (λ n. n))) c.in-Some.is in
    let with_bytes : List ℕ → Result TableRows Refusal = λ bytes. Ok (record { strings = found.strings; rows = rows_in_code seen.order seen.sections section bytes found.rows }) in
    let e = c.in_err-descriptors.field-0.0 in
    passed fails rows_view _ e c.from_residual-in_err-descriptors.result c.from_residual-in_err-descriptors.ensures
    (instead fails rows_view (rows_in_file file seen n) (with_bytes (bytes_if file (stored section))) (Err e)
    (by_section file seen n found (c.in_ok-table.ensures.answer file known) (Some section) is)
    (after_err fails (λ (v : Vec ℕ Global). v.items) rows_view (Ok (bytes_if file (stored section))) with_bytes e
    (instead fails (λ (v : Vec ℕ Global). v.items) (Ok (bytes_if file (stored section))) _ (Err e) (ap (λ (o : Option Section). Ok (bytes_if file o)) (sym c.stored.ensures)) (c.in_err-descriptors.ensures.answer file known))))

pub returns-in_err-rows-clause-answer : goal.returns-in_err-rows-clause-answer
returns-in_err-rows-clause-answer g c = λ file known.
    err_is (Reads (g.S.Source.may_fail c.args.opened.now.source.now) rows_view (rows_in_file file (sections_view c.args.sections.now) (needed_view c.args.needed))) c.from_residual-in_err-rows.result OutOfMemory c.from_residual-in_err-rows.ensures tt

pub returns-clause-answer : goal.returns-clause-answer
returns-clause-answer g c = λ file known.
    let s = c.args.sections.now in
    let seen = sections_view s in
    let n = needed_view c.args.needed in
    let found = rows_view c.in_ok-table.table in
    let section = section_view (λ n. n) c.in-Some.section in
    let is = wanted_is s n _ _ _ _ c.needed_descriptors-found.ensures c.headers_alone-headers.ensures c.deref.ensures.value c.as_deref-names.ensures.value ∙ ap (option_map (section_view (λ n. n))) c.in-Some.is in
    let bytes = taken (c.in_ok-descriptors.ensures.answer file known) ∙ ap (bytes_if file) c.stored.ensures in
    let made = made_is s _ _ _ section _ _ _ _ _ c.in_ok-rows.ensures refl c.headers_alone-headers.ensures c.deref.ensures.value c.deref-2.ensures.value c.deref-3.ensures.value in
    by_section file seen n found (c.in_ok-table.ensures.answer file known) (Some section) is
    ∙ ap (λ (rows : List ℕ). Ok (record { strings = found.strings; rows = rows })) (sym (made ∙ ap (λ (bytes : List ℕ). rows_in_code seen.order seen.sections section bytes found.rows) bytes))

pub returns-in_err-table-clause-only : goal.returns-in_err-table-clause-only
returns-in_err-table-clause-only g c = λ file known.
    let seen = sections_view c.args.sections.now in
    let n = needed_view c.args.needed in
    passed_only _ (within (λ P. front P (rows_parts file n.table) (descriptor_parts file (wanted seen n))) (c.in_err-table.ensures.only file known)) c.from_residual.ensures

pub returns-in_default-clause-only : goal.returns-in_default-clause-only
returns-in_default-clause-only g c = λ file known.
    let seen = sections_view c.args.sections.now in
    let n = needed_view c.args.needed in
    within (λ P. front P (rows_parts file n.table) (descriptor_parts file (wanted seen n))) (c.in_ok-table.ensures.only file known)

pub returns-in_err-descriptors-clause-only : goal.returns-in_err-descriptors-clause-only
returns-in_err-descriptors-clause-only g c = λ file known.
    let s = c.args.sections.now in
    let seen = sections_view s in
    let n = needed_view c.args.needed in
    let section = section_view (λ n. n) c.in-Some.section in
    let is = wanted_is s n _ _ _ _ c.needed_descriptors-found.ensures c.headers_alone-headers.ensures c.deref.ensures.value c.as_deref-names.ensures.value ∙ ap (option_map (section_view (λ n. n))) c.in-Some.is in
    passed_only _ (next (within (λ P. front P (rows_parts file n.table) (descriptor_parts file (wanted seen n))) (c.in_ok-table.ensures.only file known))
    (within (λ P. of_stored P file (rows_parts file n.table) (wanted seen n) section _ is c.stored.ensures) (c.in_err-descriptors.ensures.only file known))) c.from_residual-in_err-descriptors.ensures

pub returns-in_err-rows-clause-only : goal.returns-in_err-rows-clause-only
returns-in_err-rows-clause-only g c = λ file known.
    let s = c.args.sections.now in
    let seen = sections_view s in
    let n = needed_view c.args.needed in
    let section = section_view (λ n. n) c.in-Some.section in
    let is = wanted_is s n _ _ _ _ c.needed_descriptors-found.ensures c.headers_alone-headers.ensures c.deref.ensures.value c.as_deref-names.ensures.value ∙ ap (option_map (section_view (λ n. n))) c.in-Some.is in
    ending (next (within (λ P. front P (rows_parts file n.table) (descriptor_parts file (wanted seen n))) (c.in_ok-table.ensures.only file known))
    (within (λ P. of_stored P file (rows_parts file n.table) (wanted seen n) section _ is c.stored.ensures) (c.in_ok-descriptors.ensures.only file known)))
    (out_surely c.from_residual-in_err-rows.result c.from_residual-in_err-rows.ensures)

pub returns-clause-only : goal.returns-clause-only
returns-clause-only g c = λ file known.
    let s = c.args.sections.now in
    let seen = sections_view s in
    let n = needed_view c.args.needed in
    let section = section_view (λ n. n) c.in-Some.section in
    let is = wanted_is s n _ _ _ _ c.needed_descriptors-found.ensures c.headers_alone-headers.ensures c.deref.ensures.value c.as_deref-names.ensures.value ∙ ap (option_map (section_view (λ n. n))) c.in-Some.is in
    next (within (λ P. front P (rows_parts file n.table) (descriptor_parts file (wanted seen n))) (c.in_ok-table.ensures.only file known))
    (within (λ P. of_stored P file (rows_parts file n.table) (wanted seen n) section _ is c.stored.ensures) (c.in_ok-descriptors.ensures.only file known))
