-- Identifiers of a v0 mangling (RFC 2603, "Identifiers" and "Punycode identifiers").
use Rattle.std.specs.Prelude.{◌≡◌, ℕ, ◌+◌, List, [], Option, Some, None, Bool, true, false, if◌then◌else◌, ◌==◌, nat_le, slice_index, slice_range, drop, length, codes}
use Rattle.std.proofs.Common.{refl}
use Rattle.std.specs.List.{before_last, after_last, take_while}
use Rattle.std.specs.Char.{is_ascii_digit}
use Rattle.std.specs.Str.Parse.{digits_value}
use Rattle.binfarce_text.specs.Letters.{'0', 's', 'u', '_'}
use Rattle.binfarce_text.specs.Steps.{◌>>=◌}
use Rattle.binfarce_v0_grammar.specs.Base62.{digit_62, limited, base_62_number, optional_base_62_number}

abbrev pub is_empty : (text : List ℕ) → Bool
is_empty text = length text == 0

-- an identifier's ASCII part, and its Punycode part, which is empty where it has none
pub record UndisambiguatedIdentifier : Type 0 where
  pub ascii : List ℕ
  pub punycode : List ℕ

-- <decimal-number> = "0" | <1-9> {<0-9>}: a "0" alone, or the longest run of digits, whose number is below 2^64
unfoldable pub length_at : (part : List ℕ) (at : ℕ) → Option (ℕ × ℕ)
length_at part at =
    let digits = take_while is_ascii_digit (drop at part) in
    let decimal = if is_empty digits then None else limited (digits_value 10 digits) (at + length digits) in
    if slice_index part at == '0' then Some (0, at + 1) else decimal

-- the position after an optional byte
abbrev pub past : (part : List ℕ) (byte at : ℕ) → ℕ
past part byte at = if slice_index part at == byte then at + 1 else at

-- the two parts of an identifier's bytes. A Punycode identifier is split at its last "_", and is all Punycode without a "_"; its Punycode can't be
-- empty
unfoldable pub identifier_of : (is_punycode : Bool) (bytes : List ℕ) → Option UndisambiguatedIdentifier
identifier_of false bytes = Some (record { ascii = bytes; punycode = [] })
identifier_of true bytes =
    let code = after_last (λ c. c == '_') bytes in
    if is_empty code then None else Some (record { ascii = before_last (λ c. c == '_') bytes; punycode = code })

-- as many bytes as the length says, if there are so many
unfoldable pub identifier_bytes : (part : List ℕ) (is_punycode : Bool) (start size : ℕ) → Option (UndisambiguatedIdentifier × ℕ)
identifier_bytes part is_punycode start size =
    let end = start + size in
    if nat_le end (length part) then (identifier_of is_punycode (slice_range part start end) >>= λ i. Some (i, end)) else None

-- <undisambiguated-identifier> = ["u"] <decimal-number> ["_"] <bytes>: a "u" marks Punycode. One "_" after the length is always skipped, so bytes
-- that begin with a "_" follow another "_"
unfoldable pub undisambiguated_identifier : (part : List ℕ) (at : ℕ) → Option (UndisambiguatedIdentifier × ℕ)
undisambiguated_identifier part at =
    length_at part (past part 'u' at) >>= λ n. identifier_bytes part (slice_index part at == 'u') (past part '_' n.1) n.0

-- an identifier with its disambiguator
pub record Identifier : Type 0 where
  pub disambiguator : ℕ
  pub name : UndisambiguatedIdentifier

-- <identifier> = [<disambiguator>] <undisambiguated-identifier>
unfoldable pub identifier : (part : List ℕ) (at : ℕ) → Option (Identifier × ℕ)
identifier part at =
    optional_base_62_number part 's' at >>= λ d. (undisambiguated_identifier part d.1 >>= λ i. Some (record { disambiguator = d.0; name = i.0 }, i.1))

-- `s_u9bcher_kva` has the disambiguator 1; the last `_` separates its ASCII from its Punycode
worked_identifier : identifier (codes "s_u9bcher_kva") 0
    ≡ Some (record { disambiguator = 1; name = record { ascii = codes "bcher"; punycode = codes "kva" } }, 13)
unfolding identifier undisambiguated_identifier identifier_bytes identifier_of length_at optional_base_62_number base_62_number digit_62
worked_identifier = refl
