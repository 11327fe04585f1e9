-- How an address is read from a word.
use Rattle.std.specs.Prelude.{ℕ, Bool, List, ◌&&◌, ◌||◌, length, drop, codes, Option, Some, None, nat_eq, if◌then◌else◌}
use Rattle.std.specs.Char.{is_ascii_hexdigit}
use Rattle.std.specs.Int.{is_in_range}
use Rattle.std.specs.List.{list_all, starts_with}
use Rattle.std.specs.Str.Parse.{digits_value}

-- the number that 1 to 16 hexadecimal digits write, in upper or lower case: it is below 2^64
abbrev pub hexadecimal : List ℕ → Option ℕ
hexadecimal digits = if is_in_range 1 16 (length digits) && list_all is_ascii_hexdigit digits then Some (digits_value 16 digits) else None

-- the word begins with `0x` or `0X`
abbrev pub has_prefix : List ℕ → Bool
has_prefix word = starts_with nat_eq word (codes "0x") || starts_with nat_eq word (codes "0X")

-- the address in a word: hexadecimal digits, optionally after `0x` or `0X`
abbrev pub address_of : List ℕ → Option ℕ
address_of word = hexadecimal (if has_prefix word then drop 2 word else word)
