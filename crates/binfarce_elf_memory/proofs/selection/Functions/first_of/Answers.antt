use Rattle.std.proofs.Common.{◌≡◌, ◌<◌, ◌/◌, ℕ, length, get_or, sym, ap, ap₂, ◌∙◌, rules, tests}
use Rattle.binfarce_elf.specs.Classes.{class_of}
use Rattle.binfarce_elf.specs.Elf.{SymbolRow}
use Rattle.binfarce_elf_memory.specs.ElfSelection.{entry_taken}
use Rattle.binfarce_elf.specs.ElfSymbols.{row_of}
use Rattle.binfarce_elf_memory.specs.SelectionViews.{taken_view}
use Rattle.binfarce_elf_memory.specs.Versions.{version_of}
use Rattle.binfarce_elf.specs.machine.RawElf.{symbol_view}
use Rattle.binfarce_bytes.specs.SymbolViews.{section_function_view}
use Rattle.binfarce_bytes.proofs.Rows.{match_ok}
use Rattle.binfarce_elf_memory.proofs.RowsLeft.{passed, kept, row_is}
use Rattle.binfarce_elf_memory.proofs.selection.Functions.first_of.Goals as goal

pub loop-k-preserved : goal.loop-k-preserved
loop-k-preserved c =
    let class = class_of c.args.width in
    let it = c.args.self.now in
    let k = c.loop-k.k in
    let row = symbol_view c.unwrap-row.result in
    let entry = entry_taken it.strings.now (taken_view it.taken) it.has_modes in
    let at = match_ok c.row_at.result c.unwrap-row.result _ _ c.unwrap-row.ensures c.row_at.ensures in
    let same = row_is class it.byte_order it.rows.now k c.symbol_length-length.result row c.symbol_length-length.ensures.is at.1 in
    let version = version_of it.byte_order it.versions.now in
    let size : c.unwrap_or-size.result ≡ get_or it.sizes.now k 0 = search (rules, tests) in
    let none = ap (λ (r : SymbolRow ℕ). entry r (version k) (get_or it.sizes.now k 0)) same ∙ ap₂ (entry row) (sym c.version_at-version.ensures) (sym size) ∙ sym c.in-None.ensures in
    let below : k < length it.rows.now / class.symbol_length = rw (← c.symbol_length-length.ensures.is) c.loop-k-test.true in
    c.loop-k.invariant ∙ passed (λ k. entry (row_of class it.byte_order it.rows.now k) (version k) (get_or it.sizes.now k 0)) k (length it.rows.now / class.symbol_length) below none

pub returns-in-Some : goal.returns-in-Some
returns-in-Some c =
    let class = class_of c.args.width in
    let it = c.args.self.now in
    let k = c.loop-k.k in
    let row = symbol_view c.unwrap-row.result in
    let entry = entry_taken it.strings.now (taken_view it.taken) it.has_modes in
    let at = match_ok c.row_at.result c.unwrap-row.result _ _ c.unwrap-row.ensures c.row_at.ensures in
    let same = row_is class it.byte_order it.rows.now k c.symbol_length-length.result row c.symbol_length-length.ensures.is at.1 in
    let version = version_of it.byte_order it.versions.now in
    let size : c.unwrap_or-size.result ≡ get_or it.sizes.now k 0 = search (rules, tests) in
    let some = ap (λ (r : SymbolRow ℕ). entry r (version k) (get_or it.sizes.now k 0)) same ∙ ap₂ (entry row) (sym c.version_at-version.ensures) (sym size) ∙ sym c.in-Some.ensures in
    let below : k < length it.rows.now / class.symbol_length = rw (← c.symbol_length-length.ensures.is) c.loop-k-test.true in
    c.loop-k.invariant ∙ kept (λ k. entry (row_of class it.byte_order it.rows.now k) (version k) (get_or it.sizes.now k 0)) k (length it.rows.now / class.symbol_length) (section_function_view c.in-Some.function) below some
