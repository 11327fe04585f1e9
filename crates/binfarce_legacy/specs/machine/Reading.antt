-- What the private functions of `legacy` compute; no public contract cites this.
use Rattle.std.specs.Prelude.{ℕ, zero, ◌+◌, ◌<◌, ◌≤◌, ◌≡◌, Bool, ◌&&◌, ◌||◌, not, List, [], ◌∷◌, ◌++◌, ◌==◌, length, take, if◌then◌else◌, Option}
use Rattle.std.specs.Option.{unwrap_or}
use Rattle.std.specs.List.{prefix_len, flat_map}
use Rattle.std.specs.Char.{is_ascii_digit}
use Rattle.std.specs.Str.Parse.{digits_value}
use Rattle.binfarce_legacy.specs.Legacy.{Element, Piece, pieces, legacy_chars, without_last_part}

-- a byte that denotes itself, whatever follows it
abbrev pub is_plain : ℕ → Bool
is_plain b = not (b == 46) && not (b == 36)

-- a byte that begins an escape, or a `:`
abbrev pub is_mark : ℕ → Bool
is_mark b = b == 46 || (b == 36 || b == 58)

-- a piece of one character
abbrev pub piece_of : ℕ × ℕ → Piece
piece_of p = record { len = p.1; chars = p.0 ∷ [] }

-- the piece of an escape, or all of a name where none begins it
abbrev pub piece_or_all : List ℕ → Option Piece → Piece
piece_or_all name escape = unwrap_or escape (record { len = length name; chars = name })

-- where the name of a first element begins and ends
unfoldable pub name_start : List ℕ → ℕ
name_start text = prefix_len is_ascii_digit text

unfoldable pub name_end : List ℕ → ℕ
name_end text = name_start text + digits_value 10 (take (name_start text) text)

-- the text begins with a count and as many bytes
abbrev pub HasElement : List ℕ → Type 0
HasElement text = (0 < name_start text) × (name_end text ≤ length text)

-- the characters of the rest of a name
unfoldable pub chars_left : List ℕ → List ℕ
chars_left name = flat_map (λ p. p.chars) (pieces zero name)

-- the characters of a mangling, where its last part is left out and where it isn't
abbrev pub path_chars : Bool → List Element → List ℕ
path_chars left_out elements = if left_out then without_last_part (legacy_chars elements) else legacy_chars elements

-- a text that grows: the old text, and then more
abbrev pub Grows : List ℕ → List ℕ → Type 0
Grows old new = (more : List ℕ) × (new ≡ old ++ more)
