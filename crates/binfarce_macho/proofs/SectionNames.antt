-- The names of a Mach-O section, from their bytes.
use Rattle.std.proofs.Common.{◌≡◌, ◌≢◌, ℕ, List, length, None, refl, arith}
use Rattle.std.proofs.lemmas.Bool.{lt-ltb, le-ltb}
use Rattle.binfarce_bytes.specs.Text.{up_to_nul, utf8_of, padded_name}

pub name_is : (bytes text : List ℕ) → text ≡ up_to_nul bytes → length text ≢ 0 → padded_name bytes ≡ utf8_of text
unfolding padded_name
name_is bytes text is some = rw (← is, lt-ltb 0 (length text) (omega arith)) refl

pub name_empty : (bytes text : List ℕ) → text ≡ up_to_nul bytes → length text ≡ 0 → padded_name bytes ≡ None
unfolding padded_name
name_empty bytes text is none = rw (← is, le-ltb 0 (length text) (omega arith)) refl
