use Rattle.std.proofs.Common.{ap, sym, ◌∙◌, List, ℕ, ◌++◌, ◌∷◌, [], ap₂}
use Rattle.binfarce_bytes.proofs.Rows.{match_ok}
use Rattle.binfarce_elf.specs.Classes.{class_of}
use Rattle.binfarce_elf.specs.ElfSymbols.{row_of}
use Rattle.binfarce_elf_memory.specs.ElfEnds.{size_of}
use Rattle.binfarce_elf.specs.machine.RawElf.{symbol_view}
use Rattle.binfarce_elf_memory.proofs.Pushed.{mapped_more}
use Rattle.binfarce_elf_memory.proofs.RowsLeft.{row_is}
use Rattle.binfarce_elf_memory.proofs.ends.sizes_of.Goals as goal

pub loop-k-preserved : goal.loop-k-preserved
loop-k-preserved c = λ ends are.
    let class = class_of c.args.width in
    let rows = c.args.rows.now in
    let at = match_ok c.row_at.result c.unwrap-row.result _ _ c.unwrap-row.ensures c.row_at.ensures in
    let same = row_is class c.args.byte_order rows c.loop-k.k c.symbol_length-length.result (symbol_view c.unwrap-row.result) c.symbol_length-length.ensures.is at.1 in
    c.in_ok-push.ensures.items
    ∙ ap₂ (λ (xs : List ℕ) (x : ℕ). xs ++ x ∷ []) (c.loop-k.invariant ends are) (c.row_size.ensures ends are ∙ ap (size_of ends c.args.has_modes) (sym same))
    ∙ sym (mapped_more (λ k. size_of ends c.args.has_modes (row_of class c.args.byte_order rows k)) c.loop-k.k)
