use Rattle.std.proofs.Common.{ℕ, List, ◌+◌, ◌^◌, ◌<◌, length, drop, sym, ap, ◌∙◌, arith}
use Rattle.test_samples.specs.Patched.{patched_at}
use Rattle.test_samples.proofs.Patches.{set_saturated, byte_patched, all_patched}
use Rattle.test_samples.proofs.put.Goals as goal

pub returns : goal.returns
returns c = sym (all_patched c.args.bytes.now c.args.offset c.loop-i.i c.loop-i.file.items (omega arith)) ∙ c.loop-i.invariant.is

pub loop-i-preserved : goal.loop-i-preserved
loop-i-preserved c =
    let i = c.loop-i.i in
    let bytes = c.args.bytes.now in
    let left : List ℕ → List ℕ = patched_at (drop (i + 1) bytes) (c.args.offset + (i + 1)) in
    let fits : length c.loop-i.file.items < 2 ^ 64 = omega (arith, c.loop-i.file.ok, c.loop-i.file.small) in
    record {
      is = ap left (c.put_byte.ensures ∙ set_saturated c.loop-i.file.items (c.args.offset + i) c.saturating_add.result _ fits c.saturating_add.ensures) ∙ sym (byte_patched bytes c.args.offset i c.loop-i.file.items (omega arith)) ∙ c.loop-i.invariant.is;
      within = omega arith;
    }
