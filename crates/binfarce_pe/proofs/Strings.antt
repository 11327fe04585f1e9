-- The string table that would begin past a file's end.
use Rattle.std.proofs.Common.{◌≡◌, ℕ, ◌<◌, List, [], length, drop, refl, arith, length-drop}
use Rattle.std.proofs.lemmas.Bool.{lt-ltb}
use Rattle.binfarce_pe.specs.PeNames.{string_table}

pub outside : (file : List ℕ) (offset : ℕ) → length file < offset → string_table (drop offset file) ≡ []
unfolding string_table
outside file offset past = rw (lt-ltb (length (drop offset file)) 4 (omega (arith, past, length-drop offset file))) refl
