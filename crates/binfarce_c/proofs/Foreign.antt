-- The first bytes of a file.
use Rattle.std.proofs.Common.{◌≡◌, ◌∙◌, ℕ, List, length, min, take, ap}
use Rattle.std.proofs.lemmas.List.{take_min}
use Rattle.binfarce_foreign.specs.Foreign.{foreign_in, named_by}

-- what they say the file is
pub by_first : (count : ℕ) (file : List ℕ) → count ≡ min 512 (length file) → named_by (take count file) ≡ foreign_in file
by_first count file is = ap (λ (n : ℕ). named_by (take n file)) is ∙ ap named_by (take_min 512 file)
