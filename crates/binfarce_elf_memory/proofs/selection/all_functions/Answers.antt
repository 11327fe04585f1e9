use Rattle.std.proofs.Common.{◌≡◌, ◌∙◌, ap, ap₂, sym, subst, None, Ok, List, Option, Result, ℕ, map}
use Rattle.std.specs.Result.{IsOk}
use Rattle.binfarce_bytes.specs.Entries.{Answers}
use Rattle.binfarce_bytes.specs.Refusal.{Refusal}
use Rattle.binfarce_bytes.specs.SymbolViews.{section_function_view}
use Rattle.binfarce_elf.specs.Elf.{ElfClass, names_bytes, walk}
use Rattle.binfarce_elf.specs.SymbolTables.{rows_at}
use Rattle.binfarce_elf.specs.machine.RawElf.{table_view, rows_view}
use Rattle.binfarce_elf_memory.specs.ElfEnds.{FileKind}
use Rattle.binfarce_elf_memory.specs.ElfSelection.{Selected, needed, placed_rows, taken_from}
use Rattle.binfarce_elf_memory.specs.SelectionViews.{needed_view, HoldsAllFunctions, kind_view}
use Rattle.binfarce_elf_memory.specs.Versions.{bytes_if, versions_section}
use Rattle.binfarce_elf_memory.proofs.Selecting.{selected_is}
use Rattle.binfarce_elf_memory.proofs.selection.all_functions.Goals as goal

pub returns : goal.returns
returns g c =
    let class = g.C.Class.table in
    let t = table_view c.args.table in
    let n = needed_view c.in_ok-needed.needed in
    let found = rows_view c.in_ok-found.found in
    let kind = kind_view c.args.kind in
    let versions = bytes_if t.file (versions_section c.args.which (walk class t)) in
    let is = ap (λ (names : Option (List ℕ)). needed c.args.which (walk class t) names t.shnum None) (sym c.names_bytes-names.ensures) ∙ c.in_ok-needed.ensures in
    let also = ap (λ (k : ElfClass). rows_at k t.file n.table) (sym c.width.ensures) ∙ c.in_ok-found.ensures in
    let rows =
    c.rows_or-rows.ensures ∙ c.in_ok-placed.ensures
    ∙ ap₂ (λ (k : ElfClass) (names : Option (List ℕ)). placed_rows k t.order (walk k t) names kind t.file n.taken found.rows) c.width-2.ensures c.names_bytes-names.ensures in
    let items = map section_function_view c.in_ok-functions.functions.items in
    let listed = c.in_ok-functions.ensures ∙ ap (λ (rows : List ℕ). taken_from class t.order (walk class t) kind n.taken (record { strings = found.strings; rows = rows }) versions) rows in
    let of_kind = subst
    (λ (k : FileKind). items ≡ taken_from class t.order (walk class t) k n.taken (record { strings = found.strings; rows = placed_rows class t.order (walk class t) (names_bytes class t) k t.file n.taken found.rows }) versions)
    c.requires listed in
    subst (λ (a : Result Selected Refusal). Answers HoldsAllFunctions IsOk a (Ok c.in_ok-functions.functions)) (sym (selected_is c.args.which class t None n found is also)) of_kind
