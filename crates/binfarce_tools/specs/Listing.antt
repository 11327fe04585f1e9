-- The last line of a listing.
use Rattle.std.specs.Prelude.{ℕ, List, [], ◌∷◌, ◌++◌, codes}
use Rattle.std.specs.Fmt.{decimal}

-- `text {size}`, and a line feed
abbrev pub size_line : ℕ → List ℕ
size_line size = codes "text " ++ (decimal size ++ 10 ∷ [])

-- a listing can be made of any answer
abbrev pub ListingFits : {L : Type 0} → L → Type 0
ListingFits listed = Unit {0}
