-- A program's exit status.
use Rattle.std.specs.Prelude.{ℕ, Bool, true, false}

-- 2 for wrong arguments, and 1 for any other fault
abbrev pub status_of : Bool → ℕ
status_of true = 2
status_of false = 1
