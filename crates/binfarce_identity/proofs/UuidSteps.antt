-- The steps of the search for the UUID among load commands.
use Rattle.std.proofs.Common.{◌≡◌, ℕ, zero, suc, ◌+◌, ◌-◌, ◌<◌, ◌≤◌, true, false, List, length, Some, None, Ok, Err, refl, arith}
use Rattle.std.proofs.lemmas.Bool.{lt-ltb, le-ltb}
use Rattle.binfarce_bytes.specs.Refusal.{◌>>=◌, malformed_input}
use Rattle.binfarce_bytes.specs.Walk.{first}
use Rattle.binfarce_macho.specs.Macho.{command_at, commands_from}
use Rattle.binfarce_identity.specs.Identity.{Answer}
use Rattle.binfarce_identity.specs.MachoIdentity.{is_uuid, uuid_in}

-- the answer of at most n commands from an offset on
abbrev pub uuid_from : (bytes : List ℕ) → (n offset : ℕ) → Answer
uuid_from bytes n offset = first is_uuid (commands_from bytes n offset) >>= uuid_in bytes

module _ (bytes : List ℕ) where
  -- no more are wanted
  pub none_wanted : (n offset : ℕ) → n ≡ 0 → uuid_from bytes n offset ≡ Ok None
  unfolding commands_from
  none_wanted zero offset e = refl
  none_wanted (suc n) offset e = absurd (omega arith)

  -- no head fits
  pub no_head : (n offset : ℕ) → length bytes < offset + 8 → uuid_from bytes n offset ≡ Ok None
  unfolding commands_from
  no_head zero offset lt = refl
  no_head (suc n) offset lt = rw (lt-ltb (length bytes) (offset + 8) lt) refl

  -- the command is refused for its size
  pub too_small : (n offset : ℕ) → 0 < n → offset + 8 ≤ length bytes → (command_at bytes offset).size < 8 → uuid_from bytes n offset ≡ Err malformed_input
  unfolding commands_from
  too_small zero offset some whole lt = absurd (omega arith)
  too_small (suc n) offset some whole lt = rw (le-ltb (length bytes) (offset + 8) whole, lt-ltb (command_at bytes offset).size 8 lt) refl

  -- it is that of the UUID
  pub found : (n offset : ℕ) → 0 < n → offset + 8 ≤ length bytes → 8 ≤ (command_at bytes offset).size → is_uuid (command_at bytes offset) ≡ true
      → uuid_from bytes n offset ≡ uuid_in bytes (Some (command_at bytes offset))
  unfolding commands_from
  found zero offset some whole le is = absurd (omega arith)
  found (suc n) offset some whole le is = rw (le-ltb (length bytes) (offset + 8) whole, le-ltb (command_at bytes offset).size 8 le, is) refl

  -- it isn't, and one after it may be
  pub next : (n offset : ℕ) → 0 < n → offset + 8 ≤ length bytes → 8 ≤ (command_at bytes offset).size → is_uuid (command_at bytes offset) ≡ false
      → uuid_from bytes n offset ≡ uuid_from bytes (n - 1) (offset + (command_at bytes offset).size)
  unfolding commands_from
  next zero offset some whole le is = absurd (omega arith)
  next (suc n) offset some whole le is = rw (le-ltb (length bytes) (offset + 8) whole, le-ltb (command_at bytes offset).size 8 le, is, less n) refl
    where
      less : (n : ℕ) → suc n - 1 ≡ n
      less n = omega arith
