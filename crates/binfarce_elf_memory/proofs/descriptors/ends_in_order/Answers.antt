use Rattle.std.proofs.Common.{◌++◌, ◌∙◌, List, ℕ, Option, ap, ap₂, sym, arith}
use Rattle.binfarce_elf.specs.Classes.{class_of}
use Rattle.binfarce_elf.specs.Elf.{Section, walk}
use Rattle.binfarce_elf.specs.machine.RawElf.{table_view}
use Rattle.binfarce_elf_memory.specs.Descriptors.{code_ends}
use Rattle.binfarce_elf_memory.specs.machine.RawSelection.{ends_of}
use Rattle.binfarce_elf_memory.proofs.Placed.{all_taken, end_pushed}
use Rattle.binfarce_elf_memory.proofs.descriptors.ends_in_order.Goals as goal

pub loop-index-preserved : goal.loop-index-preserved
loop-index-preserved c =
    let sections = (walk (class_of c.args.width) (table_view c.args.table)).items in
    c.in_ok-push_end.ensures
    ∙ ap₂ (λ (xs : List ℕ) (o : Option Section). xs ++ ends_of o) c.loop-index.invariant c.section_numbered.ensures
    ∙ sym (end_pushed sections c.loop-index.index)

pub returns : goal.returns
returns c =
    let class = class_of c.args.width in
    let t = table_view c.args.table in
    c.loop-index.invariant ∙ ap (λ (sections : List Section). code_ends sections) (all_taken class t c.loop-index.index (omega (arith, c.loop-index-test.false)))
