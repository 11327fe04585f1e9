use Rattle.std.proofs.Common.{◌≡◌, drop}
use Rattle.test_samples.specs.Patched.{patched}
use Rattle.test_samples.proofs.Patches.{seen}
use Rattle.test_samples.proofs.patched.Given as goal

-- what the patches that are left make of the copy is what all make of the file
abbrev pub invariant-loop-offset : goal.invariant-loop-offset
invariant-loop-offset l = patched (seen (drop l.offset-index l.patches)) l.copy.items ≡ patched (seen l.patches) l.file
