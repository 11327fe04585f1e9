-- The state of a scan of a text from left to right.
use Rattle.std.specs.Prelude.{◌≡◌, ℕ, Bool, true, false, not, ◌&&◌, ◌||◌, ◌==◌, List, [], ◌∷◌}
use Rattle.binfarce_filtering.specs.Filter.{is_run_byte}

-- `Z` or `R`, which follow the last `_` before a name
abbrev pub is_mark : (b : ℕ) → Bool
is_mark b = 90 == b || 82 == b

-- a byte that is no `_`
abbrev pub is_other : (b : ℕ) → Bool
is_other b = not (b == 95)

-- no `Z` or `R` of the text follows a `_`, where the byte before the text is a `_` or isn't
abbrev pub is_plain : (after : Bool) (text : List ℕ) → Bool
is_plain after [] = true
is_plain after (b ∷ text) = not (after && is_mark b) && is_plain (95 == b) text

-- the last byte of the text, or else the byte before it, is a `_`
abbrev pub ends_after : (after : Bool) (text : List ℕ) → Bool
ends_after after [] = after
ends_after after (b ∷ text) = ends_after (95 == b) text

-- after one more byte the text ends in a run
abbrev pub goes_inside : (inside : Bool) (b : ℕ) → Bool
goes_inside inside b = is_run_byte b && (inside || 95 == b)

-- the text ends in a run, where one was there before it or wasn't
abbrev pub ends_inside : (inside : Bool) (text : List ℕ) → Bool
ends_inside inside [] = inside
ends_inside inside (b ∷ text) = ends_inside (goes_inside inside b) text

-- the text ends in no run
abbrev pub IsOutside : (text : List ℕ) → Type 0
IsOutside text = ends_inside false text ≡ false

-- after the text, this byte isn't a `Z` or `R` that follows a `_`
abbrev pub MayGoOn : (text : List ℕ) (b : ℕ) → Type 0
MayGoOn text b = (ends_after false text && is_mark b) ≡ false
