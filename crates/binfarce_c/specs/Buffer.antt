-- A caller's buffer of any length, and pointers to texts.
use Rattle.std.specs.Prelude.{◌≡◌, ◌-◌, ℕ, List, [], ◌∷◌, ◌++◌, length, take, drop, min, slice_set}
use Rattle.std.specs.Borrow.{Bor}
use Rattle.std.specs.Ptr.{Ptr, null_ptr, as_ptr}

-- a buffer after a write: as much as has room, and after it the old content
abbrev pub put : {X : Type 0} → (old : List X) (given : List X) → List X
put old given = take (length old) given ++ drop (length given) old

-- where a text of this length ends in a buffer: at the buffer's last byte at the latest
abbrev pub end_in : (old : List ℕ) (text_length : ℕ) → ℕ
end_in old text_length = min text_length (length old - 1)

-- a buffer whose text ends with a NUL; an empty one has no room for it
abbrev pub terminated : (old : List ℕ) (text_length : ℕ) → List ℕ
terminated old text_length = slice_set old (end_in old text_length) 0

-- the pointer is that of a borrow of the whole text; null if it is empty
abbrev pub PointsTo : (text : List ℕ) (pointer : Ptr) → Type 0
PointsTo [] pointer = pointer ≡ null_ptr
PointsTo (byte ∷ others) pointer = (whole : Bor (List ℕ)) × (whole.now ≡ byte ∷ others) × (pointer ≡ as_ptr whole)
