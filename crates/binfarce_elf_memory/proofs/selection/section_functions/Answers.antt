use Rattle.std.proofs.Common.{◌∙◌, ap, ap₂, sym, Some, Ok, List, [], Option, ℕ, false}
use Rattle.binfarce_bytes.specs.SectionEntries.{SectionEntry}
use Rattle.binfarce_elf.specs.Elf.{ElfClass, walk, names_bytes}
use Rattle.binfarce_elf_memory.specs.SelectionViews.{needed_view, functions_left, sized_from}
use Rattle.binfarce_elf_memory.specs.ElfEnds.{kind_of}
use Rattle.binfarce_elf_memory.specs.ElfSelection.{Taken, needed, selected_from}
use Rattle.binfarce_elf.specs.SymbolTables.{TableRows, rows_at}
use Rattle.binfarce_elf_memory.specs.Versions.{bytes_if, versions_section}
use Rattle.binfarce_elf.specs.machine.RawElf.{table_view, rows_view}
use Rattle.binfarce_elf_memory.proofs.Selecting.{selected_is, one_section, as_stored}
use Rattle.binfarce_elf_memory.proofs.Sized.{one_taken}
use Rattle.binfarce_elf_memory.proofs.selection.section_functions.Goals as goal

pub returns : goal.returns
returns g c =
    let class = g.C.Class.table in
    let t = table_view c.args.table in
    let n = needed_view c.in_ok-needed.needed in
    let found = rows_view c.in_ok-strings.field-0 in
    let is = ap (λ (names : Option (List ℕ)). needed c.args.which (walk class t) names t.shnum (Some c.args.name.now)) (sym c.names_bytes.ensures) ∙ c.in_ok-needed.ensures in
    let also = ap (λ (k : ElfClass). rows_at k t.file n.table) (sym c.width.ensures) ∙ c.in_ok-strings.ensures in
    let one = one_section c.args.which (walk class t) (names_bytes class t) t.shnum c.args.name.now n is in
    let versions = c.row_versions.result.now in
    let of_class = ap (λ (k : ElfClass). sized_from k t.order n.taken false found versions [] 0) c.width-2.ensures in
    selected_is c.args.which class t (Some c.args.name.now) n found is also
    ∙ ap (λ (rows : TableRows). Ok (selected_from class t.order (walk class t) (kind_of class t) n.taken rows (bytes_if t.file (versions_section c.args.which (walk class t))))) (as_stored class t n.taken found one)
    ∙ ap (λ (versions : List ℕ). Ok (selected_from class t.order (walk class t) (kind_of class t) n.taken found versions)) (sym c.row_versions.ensures)
    ∙ ap (λ (entries : List SectionEntry). Ok (record { entries = entries; taken = n.taken; strings = found.strings })) (sym (one_taken class t.order (walk class t) (kind_of class t) n.taken found versions [] false one) ∙ sym of_class ∙ sym c.functions_in.ensures.entries)
    ∙ ap₂ (λ (taken : Taken) (strings : List ℕ). Ok (record { entries = functions_left c.functions_in.result; taken = taken; strings = strings })) (sym c.functions_in.ensures.taken) (sym c.functions_in.ensures.strings)
