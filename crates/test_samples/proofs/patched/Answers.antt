use Rattle.std.proofs.Common.{◌+◌, [], drop, sym, ap, ◌∙◌, arith}
use Rattle.test_samples.specs.Patched.{patched}
use Rattle.test_samples.proofs.Patches.{seen, patch_applied, all_applied}
use Rattle.test_samples.proofs.patched.Goals as goal

pub returns : goal.returns
returns c = sym (all_applied c.args.patches.now c.loop-offset.offset-index c.loop-offset.copy.items (omega arith)) ∙ c.loop-offset.invariant

pub loop-offset-preserved : goal.loop-offset-preserved
loop-offset-preserved c =
    let i = c.loop-offset.offset-index in
    let patches = c.args.patches.now in
    ap (patched (seen (drop (i + 1) patches))) c.put.ensures ∙ sym (patch_applied patches (0, record { ref_ptr = (0, 0); now = [] }) i c.loop-offset.copy.items (omega arith)) ∙ c.loop-offset.invariant
