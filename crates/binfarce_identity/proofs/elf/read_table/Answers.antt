use Rattle.std.proofs.Common.{◌≡◌, ◌*◌, ℕ, List, refl, ap, ap₂}
use Rattle.binfarce_identity.specs.ElfIdentity.{headers_reading, table_reading}
use Rattle.binfarce_identity.specs.machine.Views.{shape_of}
use Rattle.binfarce_tables.proofs.ReadingSteps.{same}
use Rattle.binfarce_identity.proofs.Steps.{failed_at, taken_at}
use Rattle.binfarce_identity.proofs.elf.read_table.Goals as goal

pub returns-in_err-headers : goal.returns-in_err-headers
unfolding table_reading
returns-in_err-headers g c = λ file known.
    let size : c.from.result * c.length.result ≡ c.args.table.count * (shape_of c.args.table.form).length = ap₂ (λ (a b : ℕ). a * b) c.from.ensures c.length.ensures.is in
    failed_at file _ c.from_residual.result refl size (c.in_err-headers.ensures.answer file known) (c.in_err-headers.ensures.only file known) c.from_residual.ensures

pub returns : goal.returns
unfolding table_reading
returns g c = λ file known.
    let size : c.from.result * c.length.result ≡ c.args.table.count * (shape_of c.args.table.form).length = ap₂ (λ (a b : ℕ). a * b) c.from.ensures c.length.ensures.is in
    taken_at file _ c.in_ok-headers.headers.items refl size (c.in_ok-headers.ensures.answer file known) (c.in_ok-headers.ensures.only file known)
    (same file (ap (λ (b : List ℕ). headers_reading c.args.byte_order (shape_of c.args.table.form) b c.args.table.count 0) c.deref.ensures.value) (c.read_headers.ensures file known))
