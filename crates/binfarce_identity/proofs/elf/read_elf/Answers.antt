use Rattle.std.proofs.Common.{◌≡◌, ℕ, List, refl, ap, ◌∙◌}
use Rattle.binfarce_elf.specs.Classes.{class_of}
use Rattle.binfarce_elf.specs.Elf.{header_of}
use Rattle.binfarce_identity.specs.ElfIdentity.{elf_reading, table_of, table_reading}
use Rattle.binfarce_identity.specs.machine.Views.{table_view}
use Rattle.binfarce_tables.proofs.ReadingSteps.{same}
use Rattle.binfarce_identity.proofs.Steps.{failed_at, taken_at}
use Rattle.binfarce_identity.proofs.elf.read_elf.Goals as goal

pub returns-in_err-head : goal.returns-in_err-head
unfolding elf_reading
returns-in_err-head g c = λ file known.
    failed_at file _ c.from_residual.result refl c.header_length.ensures (c.in_err-head.ensures.answer file known) (c.in_err-head.ensures.only file known) c.from_residual.ensures

pub returns : goal.returns
unfolding elf_reading
returns g c = λ file known.
    let order = c.args.byte_order in
    let class = class_of c.args.width in
    let head = c.in_ok-head.head.items in
    let is : table_view c.table_of-table.result ≡ table_of c.args.width (header_of class order head) =
    c.table_of-table.ensures order c.deref.result.now c.in_ok-place.ensures.1 ∙ ap (λ (b : List ℕ). table_of c.args.width (header_of class order b)) c.deref.ensures.value in
    taken_at file _ head refl c.header_length.ensures (c.in_ok-head.ensures.answer file known) (c.in_ok-head.ensures.only file known)
    (same file (ap (table_reading order) is) (c.read_table.ensures file known))
