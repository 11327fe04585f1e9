-- The first 8 bytes of a file name its format.
use Rattle.std.proofs.Common.{◌≡◌, ℕ, List, [], ◌∷◌, length, take, refl, arith}
use Rattle.std.proofs.lemmas.Bool.{le-ltb}
use Rattle.binfarce_bytes.specs.Format.{format_of}

pub format_of_first : (file : List ℕ) → format_of (take 8 file) ≡ format_of file
unfolding format_of
format_of_first (a ∷ b ∷ c ∷ d ∷ e ∷ f ∷ g ∷ h ∷ rest) = rw (le-ltb (length (a ∷ b ∷ c ∷ d ∷ e ∷ f ∷ g ∷ h ∷ rest)) 8 (omega arith)) refl
format_of_first [] = refl
format_of_first (a ∷ []) = refl
format_of_first (a ∷ b ∷ []) = refl
format_of_first (a ∷ b ∷ c ∷ []) = refl
format_of_first (a ∷ b ∷ c ∷ d ∷ []) = refl
format_of_first (a ∷ b ∷ c ∷ d ∷ e ∷ []) = refl
format_of_first (a ∷ b ∷ c ∷ d ∷ e ∷ f ∷ []) = refl
format_of_first (a ∷ b ∷ c ∷ d ∷ e ∷ f ∷ g ∷ []) = refl
