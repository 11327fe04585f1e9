-- Texts of which only the first bytes are counted, since a longer one isn't wanted.
use Rattle.std.specs.Prelude.{ℕ, ◌-◌, List, ◌++◌, Option, Some, None, Bool, true, length, nat_lt, take}

-- the bytes of a text that are counted
abbrev pub counted : (most : Option ℕ) (text : List ℕ) → List ℕ
counted None text = text
counted (Some n) text = take n text

-- the counted bytes of a text, and of what is written after it
abbrev pub grown : (most : Option ℕ) (text more : List ℕ) → List ℕ
grown None text more = text ++ more
grown (Some n) text more = text ++ take (n - length text) more

-- these are fewer than are counted, and so the whole text
abbrev pub is_whole : (most : Option ℕ) (text : List ℕ) → Bool
is_whole None text = true
is_whole (Some n) text = nat_lt (length text) n
