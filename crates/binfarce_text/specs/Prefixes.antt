-- The prefixes of manglings.
use Rattle.std.specs.Prelude.{ℕ, List, [], ◌∷◌, Option, Some, None, if◌then◌else◌, nat_eq, length, drop}
use Rattle.std.specs.List.{starts_with}

-- the rest of the text after the first of these prefixes that it begins with
abbrev pub after_prefix : (prefixes : List (List ℕ)) (text : List ℕ) → Option (List ℕ)
after_prefix [] text = None
after_prefix (prefix ∷ prefixes) text =
    if starts_with nat_eq text prefix then Some (drop (length prefix) text) else after_prefix prefixes text
