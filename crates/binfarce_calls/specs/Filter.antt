-- Names as the text that is filtered.
use Rattle.std.specs.Prelude.{ℕ, List, [], ◌∷◌, ◌++◌, map}
use Rattle.std.specs.List.{concat}

-- a line for each name
abbrev pub lines_of : List (List ℕ) → List ℕ
lines_of names = concat (map (λ name. name ++ 10 ∷ []) names)
