use Rattle.std.proofs.Common.{ℕ, List, ap}
use Rattle.binfarce_elf.specs.Classes.{class_of}
use Rattle.binfarce_elf.specs.Elf.{header_of}
use Rattle.binfarce_tables.specs.Readings.{Reading, part_reading}
use Rattle.binfarce_tables.proofs.ReadingSteps.{followed, part_done, same, stopped}
use Rattle.binfarce_needs.specs.Needs.{NeedTables}
use Rattle.binfarce_needs.specs.NeedsReading.{headers_reading, needs_reading}
use Rattle.binfarce_needs.proofs.TableSteps.{stated}
use Rattle.binfarce_needs.proofs.reading.read_file.Goals as goal

pub returns-in_err-head : goal.returns-in_err-head
unfolding needs_reading
returns-in_err-head g c = λ file known.
    stopped file (part_reading 0 (class_of c.args.width).header_length) _ c.from_residual.result
    (same file (ap (λ (n : ℕ). part_reading 0 n) c.header_length.ensures) (part_done file 0 c.header_length.result _ (c.in_err-head.ensures.answer file known) (c.in_err-head.ensures.only file known))) c.from_residual.ensures

pub returns : goal.returns
unfolding needs_reading
returns g c = λ file known.
    let width = c.args.width in
    let order = c.args.byte_order in
    let head = c.in_ok-head.head in
    let place = c.in_ok-place.place in
    let then : List ℕ → Reading NeedTables = λ head. headers_reading width order (header_of (class_of width) order head).shoff (header_of (class_of width) order head).shnum in
    followed file (part_reading 0 (class_of width).header_length) then head
    (same file (ap (λ (n : ℕ). part_reading 0 n) c.header_length.ensures) (part_done file 0 c.header_length.result _ (c.in_ok-head.ensures.answer file known) (c.in_ok-head.ensures.only file known)))
    (same file (stated width order place.byte_order c.deref.result.now head.items place.shoff place.shnum c.deref.ensures.value c.in_ok-place.ensures.1.0 c.in_ok-place.ensures.1.1 c.in_ok-place.ensures.1.2) (c.read_headers.ensures file known))
