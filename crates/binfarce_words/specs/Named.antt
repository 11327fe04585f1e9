-- Lookup of names: the nearest of the known ones.
use Rattle.std.specs.Prelude.{◌<◌, ◌≤◌, ◌==◌, ℕ, List, All, Contains, length, take_while, Option, MatchOption}
use Rattle.std.specs.List.{zip}

-- the length of the longest common prefix of two names
abbrev pub shared : (a b : List ℕ) → ℕ
shared a b = length (take_while (λ p. p.0 == p.1) (zip a b))

-- the nearest of these to a name: one with the longest common prefix, of more than `least` bytes; none where no prefix is so long
abbrev pub IsNearest : {T : Type 0} → (T → List ℕ) → List T → (name : List ℕ) → (least : ℕ) → Option T → Type 0
IsNearest text known name least found = MatchOption found
    (All (λ it. shared (text it) name ≤ least) known)
    (λ best. Contains known best × (least < shared (text best) name) × All (λ it. shared (text it) name ≤ shared (text best) name) known)
