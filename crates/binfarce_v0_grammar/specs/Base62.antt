-- Numbers of a v0 mangling (RFC 2603, "Base-62-Numbers"). `part` is all that follows the prefix, and positions count from its start. A number read at
-- a position is its value, and the position after it.
use Rattle.std.specs.Prelude.{◌≡◌, ℕ, ◌+◌, ◌-◌, ◌*◌, ◌^◌, List, Option, Some, None, if◌then◌else◌, ◌==◌, nat_lt, nat_le, slice_index, drop, length, fold, codes}
use Rattle.std.proofs.Common.{refl}
use Rattle.std.specs.List.{take_while}
use Rattle.std.specs.Char.{is_ascii_alphanumeric, is_ascii_digit, is_ascii_lowercase, digit_value}
use Rattle.binfarce_text.specs.Letters.{'0', 'a', 's', 'A', '_', is_hex_digit}
use Rattle.binfarce_text.specs.Steps.{◌>>=◌}

-- "0" to "9", "a" to "z", "A" to "Z" are the digits 0 to 61
unfoldable pub digit_62 : (byte : ℕ) → ℕ
digit_62 byte =
    if is_ascii_digit byte then byte - '0' else (if is_ascii_lowercase byte then byte - 'a' + 10 else byte - 'A' + 36)

-- the number that digits write
abbrev pub value_62 : (digits : List ℕ) → ℕ
value_62 digits = fold (λ value byte. value * 62 + digit_62 byte) 0 digits

-- every number of a mangling is below 2^64
abbrev pub limited : (value after : ℕ) → Option (ℕ × ℕ)
limited value after = if nat_lt value (2 ^ 64) then Some (value, after) else None

-- <base-62-number> = {<0-9a-zA-Z>} "_": the longest run of digits, and a "_" after it. No digits mean 0; others mean one more than the number that
-- they write
unfoldable pub base_62_number : (part : List ℕ) (at : ℕ) → Option (ℕ × ℕ)
base_62_number part at =
    let digits = take_while is_ascii_alphanumeric (drop at part) in
    let end = at + length digits in
    let value = if length digits == 0 then 0 else value_62 digits + 1 in
    if slice_index part end == '_' then limited value (end + 1) else None

-- a number after a tag, as in <disambiguator> = "s" <base-62-number> and <binder> = "G" <base-62-number>: 0 without the
-- tag, and else one more than the number
unfoldable pub optional_base_62_number : (part : List ℕ) (tag at : ℕ) → Option (ℕ × ℕ)
optional_base_62_number part tag at =
    if slice_index part at == tag then (base_62_number part (at + 1) >>= λ r. limited (r.0 + 1) r.1) else Some (0, at)

-- <backref> = "B" <base-62-number>, with its "B" at this position: its target, which is an earlier position
unfoldable pub back_reference : (part : List ℕ) (at : ℕ) → Option (ℕ × ℕ)
back_reference part at =
    base_62_number part (at + 1) >>= λ r. (if nat_lt r.0 at then Some r else None)

-- {<0-9a-f>} "_": the longest run of digits, and a "_" after it
unfoldable pub hex_digits : (part : List ℕ) (at : ℕ) → Option (List ℕ × ℕ)
hex_digits part at =
    let digits = take_while is_hex_digit (drop at part) in
    let end = at + length digits in
    if slice_index part end == '_' then Some (digits, end + 1) else None

-- the value of a hexadecimal digit; it isn't used for any other byte
abbrev pub hex_digit : (byte : ℕ) → ℕ
hex_digit byte = if is_hex_digit byte then digit_value byte else 0

-- the number that hexadecimal digits write, where they are at most 16: it is below 2^64
unfoldable pub hex_number : (digits : List ℕ) → Option ℕ
hex_number digits =
    if nat_le (length digits) 16 then Some (fold (λ value byte. value * 16 + hex_digit byte) 0 digits) else None

-- "_" is 0, "0_" is 1 and "10_" is 63; with a tag it is one more
worked_number : base_62_number (codes "10_") 0 ≡ Some (63, 3)
unfolding base_62_number digit_62
worked_number = refl

worked_tag : optional_base_62_number (codes "s_C1a") 's' 0 ≡ Some (1, 2)
unfolding optional_base_62_number base_62_number digit_62
worked_tag = refl
