-- Bytes that are compared 16 at once.
use Rattle.std.specs.Prelude.{ℕ, Bool, ◌||◌, ◌==◌, not}

-- a byte that is none of three
abbrev pub is_other : (a b c : ℕ) (x : ℕ) → Bool
is_other a b c x = not (x == a || (x == b || x == c))
