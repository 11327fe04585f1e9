use Rattle.std.proofs.Common.{ℕ, ◌≤◌, ◌+◌, ◌-◌, length, take, drop, refl, sym, subst, arith, length-drop, length-take}
use Rattle.std.specs.Io.KnownBytes.{Appends}
use Rattle.std.proofs.KnownBytes.{Appends-kept}
use Rattle.binfarce_filtering.proofs.Streams.{appends_further, cut_at}
use Rattle.binfarce_filtering.proofs.stream.TextFilterPass.write.Goals.{in-Ok, in-Err+else-ne}
use Rattle.binfarce_filtering.proofs.stream.TextFilterPass.write.Goals as goal

pub returns-in-Ok-eq0-clause-writes : goal.returns-in-Ok-eq0-clause-writes
returns-in-Ok-eq0-clause-writes g c =
    (refl, cut_at _ _ c.args.bytes.now (c.loop.at + c.in-Ok-eq0.field-0) (appends_further _ _ _ c.args.bytes.now c.loop.at c.in-Ok-eq0.field-0 c.loop.invariant.taken c.in-Ok-eq0.ensures.bytes))

pub returns-then-ne-clause-writes : goal.returns-then-ne-clause-writes
returns-then-ne-clause-writes g c = (refl, cut_at _ _ c.args.bytes.now c.loop.at (Appends-kept _ _ _ (take c.loop.at c.args.bytes.now) c.loop.invariant.taken c.in-Err.ensures.bytes))

pub returns-clause-writes : goal.returns-clause-writes
returns-clause-writes g c = (refl, cut_at _ _ c.args.bytes.now c.loop.at c.loop.invariant.taken)

pub loop-preserved : goal.loop-preserved
loop-preserved g c =
    let bytes = c.args.bytes.now in
    let at = c.loop.at in
    let some = c.loop.invariant.within in
    let old = g.W.Write.contents c.args.output.now in
    let new = g.W.Write.contents c.write.new.self in
    let P : ℕ → Type 0 = λ x. (x ≤ length bytes) × Appends old new (take x bytes) in
    let both : P c.match-write.at = elim c.match-write.branch [
      | in-Ok w ↦ subst P (sym w.at-is) (
        omega (arith, some, w.in-Ok.ensures.bound, length-take (length bytes - at) (drop at bytes), length-drop at bytes),
        appends_further old (g.W.Write.contents c.loop.output) new bytes at w.in-Ok.n c.loop.invariant.taken w.in-Ok.ensures.bytes,
      )
      | in-Err+else-ne w ↦ subst P (sym w.at-is) (some, Appends-kept old (g.W.Write.contents c.loop.output) new (take at bytes) c.loop.invariant.taken w.in-Err.ensures.bytes)
    ] in
    record { within = both.0; taken = both.1 }
