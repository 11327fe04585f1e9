-- The numbers of characters.
use Rattle.std.specs.Prelude.{ℕ, Bool, ◌||◌, nat_lt}
use Rattle.std.specs.Int.{is_in_range}

-- a Unicode scalar value
abbrev pub is_scalar : (c : ℕ) → Bool
is_scalar c = nat_lt c 0xD800 || is_in_range 0xE000 0x10_FFFF c
