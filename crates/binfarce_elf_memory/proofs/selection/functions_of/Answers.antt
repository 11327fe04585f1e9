use Rattle.std.proofs.Common.{◌≡◌, sym, subst, refl, List, ℕ, map}
use Rattle.binfarce_bytes.specs.SymbolViews.{section_function_view}
use Rattle.binfarce_elf.specs.Classes.{class_of}
use Rattle.binfarce_elf.specs.Elf.{walk}
use Rattle.binfarce_elf.specs.SymbolTables.{TableRows}
use Rattle.binfarce_elf.specs.machine.RawElf.{table_view}
use Rattle.binfarce_elf_memory.specs.ElfEnds.{ends_of}
use Rattle.binfarce_elf_memory.specs.ElfSelection.{taken_from}
use Rattle.binfarce_elf_memory.specs.SelectionViews.{kind_view, taken_view}
use Rattle.binfarce_elf_memory.specs.machine.RawSelection.{AreKeysOf}
use Rattle.binfarce_elf_memory.proofs.Selecting.{listed_is}
use Rattle.binfarce_elf_memory.proofs.selection.functions_of.Goals as goal

pub returns : goal.returns
returns g c =
    let class = g.C.Class.table in
    let t = table_view c.args.table in
    let kind = kind_view c.args.kind in
    let taken = taken_view c.args.taken in
    let found : TableRows = record { strings = c.args.strings.now; rows = c.args.rows.now } in
    let ends = ends_of class t.order (walk class t) kind found in
    let keys = subst (AreKeysOf ends) (sym c.deref.ensures.value) c.in_ok-keys.ensures in
    let items = map section_function_view c.in_ok-functions.functions.items in
    let listed = listed_is class (class_of c.width.result) t.order (walk class t) kind kind c.has_modes-has_modes.result taken found c.row_versions.result.now items c.width.ensures refl c.has_modes-has_modes.ensures (c.in_ok-functions.ensures ends keys) in
    subst (λ (versions : List ℕ). items ≡ taken_from class t.order (walk class t) kind taken found versions) c.row_versions.ensures listed
