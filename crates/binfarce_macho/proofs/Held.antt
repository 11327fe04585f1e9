-- The load commands that bytes hold whole, one after the other.
use Rattle.std.proofs.Common.{◌≡◌, ℕ, zero, suc, ◌+◌, ◌-◌, ◌<◌, ◌≤◌, true, false, List, length, refl, ap, arith}
use Rattle.std.proofs.lemmas.Bool.{lt-ltb, le-ltb}
use Rattle.binfarce_macho.specs.declared.header.MachoHeader.{MachoHeader}
use Rattle.binfarce_macho.specs.Macho.{Header, header_of, command_at}
use Rattle.binfarce_macho.specs.MachoViews.{header_view}
use Rattle.binfarce_macho.specs.MachoParts.{holds_body, holds_from}

module _ (bytes : List ℕ) where
  -- no more are wanted
  pub none_wanted : (n offset : ℕ) → n ≡ 0 → holds_from bytes n offset ≡ true
  unfolding holds_from
  none_wanted zero offset e = refl
  none_wanted (suc n) offset e = absurd (omega arith)

  -- no head fits
  pub head_truncated : (n offset : ℕ) → 0 < n → length bytes < offset + 8 → holds_from bytes n offset ≡ false
  unfolding holds_from
  head_truncated zero offset some lt = absurd (omega arith)
  head_truncated (suc n) offset some lt = rw (lt-ltb (length bytes) (offset + 8) lt) refl

  -- the command is refused for its size
  pub size_refused : (n offset : ℕ) → 0 < n → offset + 8 ≤ length bytes → (command_at bytes offset).size < 8 → holds_from bytes n offset ≡ true
  unfolding holds_from
  size_refused zero offset some whole lt = absurd (omega arith)
  size_refused (suc n) offset some whole lt = rw (le-ltb (length bytes) (offset + 8) whole, lt-ltb (command_at bytes offset).size 8 lt) refl

  -- what is read of the command's body is truncated
  pub body_truncated : (n offset : ℕ) → 0 < n → offset + 8 ≤ length bytes → 8 ≤ (command_at bytes offset).size → holds_body bytes (command_at bytes offset) ≡ false → holds_from bytes n offset ≡ false
  unfolding holds_from
  body_truncated zero offset some whole le short = absurd (omega arith)
  body_truncated (suc n) offset some whole le short = rw (le-ltb (length bytes) (offset + 8) whole, le-ltb (command_at bytes offset).size 8 le, short) refl

  -- the command is held, and those after it may be
  pub one_held : (n offset : ℕ) → 0 < n → offset + 8 ≤ length bytes → 8 ≤ (command_at bytes offset).size → holds_body bytes (command_at bytes offset) ≡ true
      → holds_from bytes n offset ≡ holds_from bytes (n - 1) (offset + (command_at bytes offset).size)
  unfolding holds_from
  one_held zero offset some whole le held = absurd (omega arith)
  one_held (suc n) offset some whole le held = rw (le-ltb (length bytes) (offset + 8) whole, le-ltb (command_at bytes offset).size 8 le, held, less n) refl
    where
      less : (n : ℕ) → suc n - 1 ≡ n
      less n = omega arith

-- how many commands the header says
pub count_is : (file : List ℕ) (header : MachoHeader) → header_view header ≡ header_of file → header.ncmds ≡ (header_of file).ncmds
count_is file header is = ap (λ (h : Header ℕ). h.ncmds) is
