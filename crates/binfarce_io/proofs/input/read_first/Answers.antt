use Rattle.std.proofs.Common.{◌≡◌, inr, refl, ◌+◌, ◌≤◌, ◌<◌, ℕ, length, arith, subst, take}
use Rattle.std.proofs.lemmas.Grind.{common_steps}
use Rattle.std.proofs.lemmas.List.{length-take}
use Rattle.std.specs.Io.KnownBytes.{Consumes, IsAtEnd, ReadConsumes}
use Rattle.binfarce_io.specs.Faults.{no_memory_fault}
use Rattle.binfarce_io.proofs.Streams.{first_are, short_are, stopped}
use Rattle.binfarce_io.proofs.input.read_first.Goals as goal

pub returns-then-left-eq0 : goal.returns-then-left-eq0
returns-then-left-eq0 g c =
    let all : length c.loop.bytes.items ≡ 512 = grind (arith, common_steps, c.loop.invariant.short, c.if-left-eq0.true, c.saturating_sub-left.ensures, c.len.ensures) in
    (first_are (g.R.Read.remaining c.args.reader.now) (g.R.Read.remaining c.loop.reader) c.loop.bytes.items all c.loop.invariant.read, c.loop.invariant.read)

pub returns-in-Ok-eq0 : goal.returns-in-Ok-eq0
returns-in-Ok-eq0 g c =
    let mid = g.R.Read.remaining c.loop.reader in
    let new = g.R.Read.remaining c.read.new.self in
    let some : 0 < length c.read.new.buf = grind (arith, common_steps, c.read.auto.buf, length-take c.saturating_sub-left.result c.loop.part, c.loop.invariant.whole, c.if-left-eq0.false, c.saturating_sub-left.ensures) in
    let read : Consumes mid new (take c.in-Ok-eq0.field-0 c.read.new.buf) × (c.in-Ok-eq0.field-0 ≡ 0 → 0 < length c.read.new.buf → IsAtEnd new) = subst (λ r. ReadConsumes mid new r c.read.new.buf) c.in-Ok-eq0.is c.read.ensures.bytes in
    short_are (g.R.Read.remaining c.args.reader.now) mid new c.loop.bytes.items c.loop.invariant.short c.loop.invariant.read
    (subst (λ (n : ℕ). Consumes mid new (take n c.read.new.buf)) c.in-Ok-eq0.field-0-test read.0) (read.1 c.in-Ok-eq0.field-0-test some)

pub returns-in_err-extend_from_slice-in-Ok : goal.returns-in_err-extend_from_slice-in-Ok
returns-in_err-extend_from_slice-in-Ok g c =
    let old = g.R.Read.remaining c.args.reader.now in
    let mid = g.R.Read.remaining c.loop.reader in
    let new = g.R.Read.remaining c.read.new.self in
    let read = subst (λ r. ReadConsumes mid new r c.read.new.buf) c.in-Ok.is c.read.ensures.bytes in
    let room = length-take c.saturating_sub-left.result c.loop.part in
    let taken = length-take c.in-Ok.count c.read.new.buf in
    let fits : length c.loop.bytes.items + length (take c.in-Ok.count c.read.new.buf) ≤ 512 =
    grind (arith, common_steps, c.read.auto.buf, room, taken, c.loop.invariant.whole, c.loop.invariant.short, c.len.ensures, c.saturating_sub-left.ensures) in
    stopped old mid new c.loop.bytes.items (take c.in-Ok.count c.read.new.buf) c.extend_from_slice.new.self.items no_memory_fault c.from_residual.result
    fits c.loop.invariant.read read.0 (inr refl) c.from_residual.ensures.1
