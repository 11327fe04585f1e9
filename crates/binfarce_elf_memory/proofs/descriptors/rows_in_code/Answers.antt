use Rattle.std.proofs.Common.{◌++◌, ◌∙◌, List, ℕ, ap, sym}
use Rattle.binfarce_elf.specs.Classes.{class_of}
use Rattle.binfarce_elf.specs.Elf.{walk}
use Rattle.binfarce_elf.specs.ElfViews.{section_view}
use Rattle.binfarce_elf.specs.machine.RawElf.{table_view}
use Rattle.binfarce_elf_memory.specs.Descriptors.{row_in_code}
use Rattle.binfarce_elf_memory.proofs.Placed.{rows_more}
use Rattle.binfarce_elf_memory.proofs.descriptors.rows_in_code.Goals as goal

pub loop-k-preserved : goal.loop-k-preserved
loop-k-preserved c =
    let sections = walk (class_of c.args.width) (table_view c.args.table) in
    let f = row_in_code c.args.table.byte_order sections (section_view (λ n. n) c.args.section) c.args.descriptors.now c.args.rows.now in
    c.in_ok-push_row.ensures ∙ ap (λ (xs : List ℕ). xs ++ f c.loop-k.k) c.loop-k.invariant ∙ sym (rows_more f c.loop-k.k)
