-- What the loops of `numbers` compute, from the digits that are left; no public contract cites this.
use Rattle.std.specs.Prelude.{ℕ, ◌+◌, ◌*◌, ◌-◌, List, [], ◌∷◌, Option, Some, None, if◌then◌else◌, ◌==◌}
use Rattle.std.specs.Option.{option_map}
use Rattle.std.specs.Char.{is_ascii_alphanumeric, is_ascii_digit}
use Rattle.binfarce_text.specs.Letters.{'0', '_', is_hex_digit}
use Rattle.binfarce_v0_grammar.specs.Base62.{digit_62, limited}

-- base-62 digits up to a "_", after digits of this value: one more than the number that all of them write, and the position after the "_"
abbrev pub number_from : List ℕ → ℕ → ℕ → Option (ℕ × ℕ)
number_from [] value at = None
number_from (c ∷ rest) value at =
    if c == '_' then limited (value + 1) (at + 1) else (if is_ascii_alphanumeric c then number_from rest (value * 62 + digit_62 c) (at + 1) else None)

-- decimal digits, after digits of this value: the number that all of them write, and the position after them
abbrev pub decimal_from : List ℕ → ℕ → ℕ → ℕ × ℕ
decimal_from [] value at = (value, at)
decimal_from (c ∷ rest) value at =
    if is_ascii_digit c then decimal_from rest (value * 10 + (c - '0')) (at + 1) else (value, at)

abbrev pub length_from : List ℕ → ℕ → ℕ → Option (ℕ × ℕ)
length_from digits value at = limited (decimal_from digits value at).0 (decimal_from digits value at).1

-- how many hexadecimal digits precede a "_"
abbrev pub hex_length : List ℕ → Option ℕ
hex_length [] = None
hex_length (c ∷ rest) =
    if c == '_' then Some 0 else (if is_hex_digit c then option_map (λ n. n + 1) (hex_length rest) else None)
