-- Addresses as words of a text.
use Rattle.std.specs.Prelude.{◌≡◌, ℕ, ◌+◌, ◌-◌, Bool, true, false, List, ◌&&◌, ◌||◌, codes, drop, length, max, nat_eq, not, slice_index, if◌then◌else◌}
use Rattle.std.proofs.Common.{refl}
use Rattle.std.specs.Char.{is_ascii_alphanumeric, is_ascii_hexdigit}
use Rattle.std.specs.Int.{is_in_range}
use Rattle.std.specs.List.{prefix_len}
use Rattle.binfarce_rows.specs.Address.{has_prefix}
use Rattle.binfarce_logs.specs.Module.{ends_with_plus}

-- how many hexadecimal digits the text begins with, in upper or lower case
abbrev pub digits_len : (text : List ℕ) → ℕ
digits_len text = prefix_len is_ascii_hexdigit text

-- a byte of a word: a letter, a digit, `_`, or `-`, which is in the ranges of maps and in UUIDs
abbrev pub is_word_byte : ℕ → Bool
is_word_byte b = is_ascii_alphanumeric b || (nat_eq b 95 || nat_eq b 45)

-- how many digits an address with a prefix has at least: an offset, which comes behind `+`, has one, and any other has 4
abbrev pub least_digits : (before : List ℕ) → ℕ
least_digits before = if ends_with_plus before then 1 else 4

-- the length of the address with a prefix that the text after `before` begins with: `0x` or `0X`, and digits up to 16, after which comes none. 0 if it begins with none
abbrev pub prefixed_len : (before text : List ℕ) → ℕ
prefixed_len before text = if has_prefix text && is_in_range (least_digits before) 16 (digits_len (drop 2 text)) then 2 + digits_len (drop 2 text) else 0

-- the length of the address without a prefix that the text begins with: 8 to 16 digits, which are a whole word
abbrev pub bare_len : (before text : List ℕ) → ℕ
bare_len before text =
    if is_in_range 8 16 (digits_len text) && not (is_word_byte (slice_index before (length before - 1)) || is_word_byte (slice_index text (digits_len text))) then digits_len text else 0

-- the length of the address that the text after `before` begins with; one without a prefix where bare words are addresses too. 0 if it begins with none
abbrev pub address_len : (bare : Bool) (before text : List ℕ) → ℕ
address_len bare before text = max (prefixed_len before text) (if bare then bare_len before text else 0)

-- the digits end before any other byte; 17 of them, or 3, are no address
worked_digits : address_len false (codes "") (codes "0x7Fff9 (") ≡ 7
worked_digits = refl

worked_upper : address_len false (codes "") (codes "0X7Fff9") ≡ 7
worked_upper = refl

worked_many : address_len false (codes "") (codes "0x12345678123456789") ≡ 0
worked_many = refl

worked_few : address_len false (codes "") (codes "0x1ff") ≡ 0
worked_few = refl

-- but are an offset
worked_offset : address_len false (codes "libfoo.so(+") (codes "0x5b5)") ≡ 5
worked_offset = refl

-- letters may come before and after an address with a prefix
worked_within : address_len false (codes "pc=a") (codes "0x12340x5678") ≡ 7
worked_within = refl

-- and neither a letter, a digit, `_` nor `-` before or after one without a prefix
worked_bare : address_len true (codes "[<") (codes "ffffffff8104fd3a>]") ≡ 16
worked_bare = refl

worked_seven : address_len true (codes " ") (codes "4fd3a00 ") ≡ 0
worked_seven = refl

worked_behind : address_len true (codes "_") (codes "deadbeef") ≡ 0
worked_behind = refl

worked_before : address_len true (codes " ") (codes "deadbeefs") ≡ 0
worked_before = refl

-- so neither the range of a mapping nor a part of a UUID is an address
worked_start : address_len true (codes "") (codes "55d0c0000000-55d0c0001000 r-xp") ≡ 0
worked_start = refl

worked_end : address_len true (codes "55d0c0000000-") (codes "55d0c0001000 r-xp") ≡ 0
worked_end = refl
