use Rattle.std.proofs.Common.{◌≡◌, ℕ, ◌*◌, ◌+◌, Vec, Global, Option, Ok, Err, ap₂, sym, subst}
use Rattle.std.specs.Prelude.{All}
use Rattle.binfarce_bytes.specs.Number.{bytes_at}
use Rattle.binfarce_bytes.specs.Part.{whole_part}
use Rattle.binfarce_bytes.specs.Refusal.{if_as_long_as}
use Rattle.binfarce_tables.specs.Reading.{Reads}
use Rattle.binfarce_elf_memory.specs.ElfSegments.{load_address_at, program_length}
use Rattle.binfarce_elf_memory.specs.declared.segments.LoadAddress.{LoadAddress}
use Rattle.binfarce_tables.proofs.Readings.{as_long_as, passed}
use Rattle.binfarce_tables.proofs.Sure.{passed_only, within}
use Rattle.binfarce_tables.proofs.segments.read_segments.Goals as goal

pub returns-in_err-headers-clause-answer : goal.returns-in_err-headers-clause-answer
unfolding load_address_at
returns-in_err-headers-clause-answer g c = λ file known.
    let place = c.args.place in
    let size = place.phnum * program_length c.args.width in
    let fails = g.S.Source.may_fail c.args.opened.now.source.now in
    let same : c.from.result * c.program_length.result ≡ size = ap₂ (λ (a b : ℕ). a * b) c.from.ensures c.program_length.ensures.is in
    let e = c.in_err-headers.field-0.0 in
    passed fails (λ (address : Option LoadAddress). address) _ e c.from_residual.result c.from_residual.ensures
    (as_long_as fails (λ (v : Vec ℕ Global). v.items) (λ (address : Option LoadAddress). address) (place.phoff + size) file (bytes_at file place.phoff size) _ e
    (subst (λ (n : ℕ). Reads fails (λ (v : Vec ℕ Global). v.items) (if_as_long_as (place.phoff + n) file (Ok (bytes_at file place.phoff n))) (Err e)) same (c.in_err-headers.ensures.answer file known)))

pub returns-in_err-headers-clause-only : goal.returns-in_err-headers-clause-only
returns-in_err-headers-clause-only g c = λ file known.
    let same : c.from.result * c.program_length.result ≡ c.args.place.phnum * program_length c.args.width = ap₂ (λ (a b : ℕ). a * b) c.from.ensures c.program_length.ensures.is in
    passed_only _ (within (λ P. subst (λ (n : ℕ). All P (whole_part file c.args.place.phoff n)) (sym same)) (c.in_err-headers.ensures.only file known)) c.from_residual.ensures

pub returns-clause-only : goal.returns-clause-only
returns-clause-only g c = λ file known.
    let same : c.from.result * c.program_length.result ≡ c.args.place.phnum * program_length c.args.width = ap₂ (λ (a b : ℕ). a * b) c.from.ensures c.program_length.ensures.is in
    within (λ P. subst (λ (n : ℕ). All P (whole_part file c.args.place.phoff n)) (sym same)) (c.in_ok-headers.ensures.only file known)
