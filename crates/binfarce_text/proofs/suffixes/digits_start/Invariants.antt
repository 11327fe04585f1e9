use Rattle.std.proofs.Common.{◌≡◌, ℕ, ◌<◌, ◌≤◌, true, length, get_or}
use Rattle.binfarce_text.specs.Suffixes.{is_llvm_digit}
use Rattle.binfarce_text.proofs.suffixes.digits_start.Given as goal

abbrev pub invariant-loop-end : goal.invariant-loop-end
invariant-loop-end l = record {
  within : l.end ≤ length l.text;
  digits : (k : ℕ) → l.end ≤ k → k < length l.text → is_llvm_digit (get_or l.text k 0) ≡ true;
}

abbrev pub decreases-loop-end : goal.decreases-loop-end
decreases-loop-end l = l.end
