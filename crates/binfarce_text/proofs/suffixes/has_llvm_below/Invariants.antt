use Rattle.std.proofs.Common.{◌≡◌, ℕ, ◌<◌, false, nat_eq, codes, drop}
use Rattle.std.specs.List.{starts_with}
use Rattle.binfarce_text.proofs.suffixes.has_llvm_below.Given as goal

abbrev pub invariant-loop-at : goal.invariant-loop-at
invariant-loop-at l = (k : ℕ) → k < l.at → starts_with nat_eq (drop k l.text) (codes ".llvm.") ≡ false
