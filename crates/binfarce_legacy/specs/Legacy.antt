-- The legacy mangling that `rustc` writes: `_ZN`, elements that each follow their length, and `E`.
use Rattle.std.specs.Prelude.{◌≡◌, ◌⊎◌, ℕ, zero, suc, ◌+◌, ◌-◌, ◌<◌, Bool, false, ◌&&◌, not, List, [], ◌∷◌, ◌++◌, length, take, drop, Option, Some, None, if◌then◌else◌, ◌==◌, nat_eq, nat_lt, slice_index, codes, IsTrue, ⊤}
use Rattle.std.proofs.Common.{refl, arith}
use Rattle.std.specs.Option.{option_map, option_or, unwrap_or}
use Rattle.std.specs.List.{find, flat_map, join_by, list_all, list_any, starts_with, take_while, before_last}
use Rattle.std.specs.Char.{is_ascii_digit, is_control}
use Rattle.std.specs.Str.{IsAscii}
use Rattle.std.specs.Str.Parse.{digits_value}
use Rattle.binfarce_text.specs.Letters.{'$', ':', is_hex_digit}
use Rattle.binfarce_text.specs.Characters.{is_scalar}
use Rattle.binfarce_text.specs.Prefixes.{after_prefix}
use Rattle.binfarce_text.specs.Suffixes.{is_allowed_rest}

-- the part after the prefix, which is `_ZN`, `ZN` or `__ZN`
unfoldable pub part_after_prefix : (text : List ℕ) → Option (List ℕ)
part_after_prefix text = after_prefix (codes "_ZN" ∷ codes "ZN" ∷ codes "__ZN" ∷ []) text

-- an element: the digits of its length, and its name
pub record Element : Type 0 where
  pub digits : List ℕ
  pub name : List ℕ

-- elements as a mangling writes them: each with its digits in front, then `E`, and the rest after it
abbrev pub mangled : (elements : List Element) (rest : List ℕ) → List ℕ
mangled [] rest = codes "E" ++ rest
mangled (e ∷ elements) rest = e.digits ++ (e.name ++ mangled elements rest)

-- with these bytes after it, e is counted: its digits are the longest run of decimal digits, and
-- the number that they write is the length of its name
pub record IsCounted (e : Element) (after : List ℕ) : Type 0 where
  pub longest : e.digits ≡ take_while is_ascii_digit (e.digits ++ (e.name ++ after))
  pub not_empty : 0 < length e.digits
  pub counts : length e.name ≡ digits_value 10 e.digits

-- each element is counted
abbrev pub AreCounted : (elements : List Element) (rest : List ℕ) → Type 0
AreCounted [] rest = ⊤
AreCounted (e ∷ elements) rest = IsCounted e (mangled elements rest) × AreCounted elements rest

-- part is counted elements, `E` and the rest
abbrev pub Reads : (part : List ℕ) (elements : List Element) (rest : List ℕ) → Type 0
Reads part elements rest = AreCounted elements rest × (part ≡ mangled elements rest)

-- an element with its digits is a hash: `17h` and 16 lower-case hexadecimal digits, which its length counts
abbrev pub is_hash : (written : List ℕ) → Bool
is_hash written = starts_with nat_eq written (codes "17h") && list_all is_hex_digit (drop 3 written)

-- the last element is a hash
abbrev pub ends_in_hash : (elements : List Element) → Bool
ends_in_hash [] = false
ends_in_hash (e ∷ []) = is_hash (e.digits ++ e.name)
ends_in_hash (e ∷ (f ∷ elements)) = ends_in_hash (f ∷ elements)

-- text is a legacy mangling of these elements: part follows its prefix, and rest follows its `E`
pub record IsLegacy (text part : List ℕ) (elements : List Element) (rest : List ℕ) : Type 0 where
  pub prefix : part_after_prefix text ≡ Some part
  pub ascii : IsAscii part
  pub reads : Reads part elements rest
  pub allowed : IsTrue (is_allowed_rest rest)

-- a piece of an element's name: its length in bytes, and the characters that it denotes
pub record Piece : Type 0 where
  pub len : ℕ
  pub chars : List ℕ

-- the named escapes, and the character that each denotes
abbrev pub named_escapes : List (List ℕ × List ℕ)
named_escapes =
    (codes "$LT$", codes "<") ∷ (codes "$GT$", codes ">") ∷ (codes "$RF$", codes "&") ∷ (codes "$C$", codes ",")
    ∷ (codes "$LP$", codes "(") ∷ (codes "$RP$", codes ")") ∷ (codes "$BP$", codes "*") ∷ (codes "$SP$", codes "@") ∷ []

-- the piece that such an escape makes where the name begins with it
unfoldable pub named_escape : (name : List ℕ) → Option Piece
named_escape name =
    option_map (λ e. record { len = length e.0; chars = e.1 })
    (find (λ e. starts_with nat_eq name e.0) named_escapes)

-- a character that is printed: a scalar value that isn't a control character
abbrev pub is_printed : (c : ℕ) → Bool
is_printed c = is_scalar c && not (is_control c)

-- the piece that `$u`, hexadecimal digits and `$` make where the name begins with them
unfoldable pub numbered_escape : (name : List ℕ) → Option Piece
numbered_escape name =
    let digits = take_while is_hex_digit (drop 2 name) in
    if starts_with nat_eq name (codes "$u") && nat_lt 0 (length digits)
    && slice_index name (2 + length digits) == '$' && is_printed (digits_value 16 digits)
    then Some (record { len = 3 + length digits; chars = digits_value 16 digits ∷ [] })
    else None

-- the first piece of a name: `..` denotes `::`, and an escape its character. A `$` that begins no escape keeps all the rest unchanged; any other byte
-- denotes itself
unfoldable pub first_piece : (name : List ℕ) → Piece
first_piece name =
    if starts_with nat_eq name (codes "..") then record { len = 2; chars = codes "::" }
    else (if starts_with nat_eq name (codes "$")
    then unwrap_or (option_or (named_escape name) (numbered_escape name)) (record { len = length name; chars = name })
    else record { len = 1; chars = take 1 name })

-- the pieces of a name from left to right. The bytes of a piece after its first are skipped, and
-- `skip` is how many are still to be skipped
abbrev pub pieces : (skip : ℕ) (name : List ℕ) → List Piece
pieces skip [] = []
pieces (suc skip) (b ∷ name) = pieces skip name
pieces zero (b ∷ name) = first_piece (b ∷ name) ∷ pieces ((first_piece (b ∷ name)).len - 1) name

-- the characters that a name denotes: a leading `_` is dropped before a `$`
unfoldable pub name_chars : (name : List ℕ) → List ℕ
name_chars name =
    flat_map (λ p. p.chars) (pieces (if starts_with nat_eq name (codes "_$") then 1 else 0) name)

-- the characters of a mangling: those of the elements' names, joined by `::`
unfoldable pub legacy_chars : (elements : List Element) → List ℕ
legacy_chars elements = join_by (λ e. name_chars e.name) (codes "::") elements

-- the characters before the last `:`, without the one right before it: none where that `:` is first, and all if there is no `:`
unfoldable pub without_last_part : (chars : List ℕ) → List ℕ
without_last_part chars =
    if list_any (λ c. c == ':') chars
    then (let front = before_last (λ c. c == ':') chars in take (length front - 1) front)
    else chars

-- front is the path, or the path up to the end of a `::`, or the `<` that it begins with
abbrev pub IsFront : (front path : List ℕ) → Type 0
IsFront front path =
    (front ≡ path)
    ⊎ (((first more : List ℕ) × (front ≡ first ++ codes "::") × (path ≡ front ++ more))
    ⊎ ((front ≡ codes "<") × ((more : List ℕ) × (path ≡ front ++ more))))

-- `_ZN4$LT$3barE` is `$LT$` and `bar`
abbrev worked_elements : List Element
worked_elements =
    record { digits = codes "4"; name = codes "$LT$" } ∷ record { digits = codes "3"; name = codes "bar" } ∷ []

worked_prefix : part_after_prefix (codes "_ZN4$LT$3barE") ≡ Some (codes "4$LT$3barE")
unfolding part_after_prefix
worked_prefix = refl

worked_reading : Reads (codes "4$LT$3barE") worked_elements []
worked_reading = (
  (
    record { longest = refl; not_empty = omega arith; counts = refl },
    (record { longest = refl; not_empty = omega arith; counts = refl }, tt),
  ),
  refl,
)

worked_text : legacy_chars worked_elements ≡ codes "<::bar"
unfolding legacy_chars name_chars first_piece named_escape numbered_escape
worked_text = refl

worked_trimmed : without_last_part (codes "<::bar") ≡ codes "<"
unfolding without_last_part
worked_trimmed = refl
