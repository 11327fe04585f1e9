use Rattle.std.proofs.Common.{◌≡◌, ◌++◌, ◌∷◌, [], ℕ, List, ap, ap₂, sym, ◌∙◌}
use Rattle.std.proofs.lemmas.List.{map-append}
use Rattle.std.specs.Option.{option_map}
use Rattle.binfarce_bytes.specs.SectionEntries.{SectionEntry}
use Rattle.binfarce_bytes.specs.SymbolViews.{section_function_view}
use Rattle.binfarce_bytes.proofs.Rows.{match_ok}
use Rattle.binfarce_elf.specs.Classes.{class_of}
use Rattle.binfarce_elf_memory.specs.ElfSelection.{entry_sized, entry_taken}
use Rattle.binfarce_elf.specs.ElfSymbols.{row_of}
use Rattle.binfarce_elf.specs.Elf.{SymbolRow}
use Rattle.binfarce_elf_memory.specs.SelectionViews.{taken_view}
use Rattle.binfarce_elf_memory.specs.Versions.{version_of}
use Rattle.binfarce_elf.specs.machine.RawElf.{symbol_view}
use Rattle.binfarce_elf_memory.proofs.Pushed.{row_added, row_passed}
use Rattle.binfarce_elf_memory.proofs.RowsLeft.{row_is}
use Rattle.binfarce_elf_memory.proofs.selection.list_in.Goals as goal
use Rattle.binfarce_elf_memory.proofs.selection.list_in.Goals.{in-None, in-Some+in_ok-push-in-Some}

pub loop-k-preserved : goal.loop-k-preserved
loop-k-preserved c = λ ends are.
    let class = class_of c.args.width in
    let rows = c.args.rows.now in
    let strings = c.args.strings.now in
    let taken = taken_view c.args.taken in
    let modes = c.args.has_modes in
    let row = symbol_view c.unwrap-row.result in
    let k = c.loop-k.k in
    let version = λ (k : ℕ). version_of c.args.byte_order c.args.versions.now k in
    let f = λ (k : ℕ). entry_sized strings taken modes ends (row_of class c.args.byte_order rows k) (version k) in
    let at = match_ok c.row_at.result c.unwrap-row.result _ _ c.unwrap-row.ensures c.row_at.ensures in
    let same = row_is class c.args.byte_order rows k c.symbol_length-length.result row c.symbol_length-length.ensures.is at.1 in
    let is : f k ≡ option_map section_function_view c.function_of.result =
    ap (λ (r : SymbolRow ℕ). entry_sized strings taken modes ends r (version k)) same
    ∙ ap₂ (entry_taken strings taken modes row) (sym c.version_at-version.ensures) (sym (c.row_size-size.ensures ends are)) ∙ sym c.function_of.ensures in
    elim c.match-function_of.branch [
      | in-None w ↦
          rw (ap (λ v. v.items) w.functions-is) (c.loop-k.invariant ends are ∙ sym (row_passed f k (is ∙ ap (option_map section_function_view) w.in-None.is)))
      | in-Some+in_ok-push-in-Some w ↦
          rw (ap (λ v. v.items) w.functions-is ∙ w.in_ok-push-in-Some.ensures.items)
          (map-append section_function_view c.loop-k.functions.items (w.in-Some.function ∷ []) ∙ ap (λ (xs : List SectionEntry). xs ++ section_function_view w.in-Some.function ∷ []) (c.loop-k.invariant ends are)
          ∙ sym (row_added f k (section_function_view w.in-Some.function) (is ∙ ap (option_map section_function_view) w.in-Some.is)))
    ]
