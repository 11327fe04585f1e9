-- What the private functions of `suffixes` compute; no public contract cites this.
use Rattle.std.specs.Prelude.{◌≡◌, ℕ, ◌-◌, ◌<◌, ◌≤◌, true, false, List, length, slice_index}
use Rattle.binfarce_text.specs.Suffixes.{is_llvm_digit}

-- the bytes from n on are digits of the number, and no longer run of them ends the text
pub record EndsInDigits (t : List ℕ) (n : ℕ) : Type 0 where
  pub within : n ≤ length t
  pub digits : (k : ℕ) → n ≤ k → k < length t → is_llvm_digit (slice_index t k) ≡ true
  pub longest : 0 < n → is_llvm_digit (slice_index t (n - 1)) ≡ false
