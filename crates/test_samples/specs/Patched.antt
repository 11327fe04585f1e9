-- A file with other bytes at some offsets.
use Rattle.std.specs.Prelude.{ℕ, suc, List, [], ◌∷◌, set}

-- the file with these bytes from the offset on, of which those past its end count for nothing
unfoldable pub patched_at : List ℕ → ℕ → List ℕ → List ℕ
patched_at [] offset file = file
patched_at (byte ∷ bytes) offset file = patched_at bytes (suc offset) (set file offset byte)

-- the file with each of these patches, one after another
unfoldable pub patched : List (ℕ × List ℕ) → List ℕ → List ℕ
patched [] file = file
patched (patch ∷ others) file = patched others (patched_at patch.1 patch.0 file)
