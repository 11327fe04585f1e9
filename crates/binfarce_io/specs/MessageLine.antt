-- The lines on standard error.
use Rattle.std.specs.Prelude.{ℕ, ◌/◌, ◌%◌, false, List, [], ◌∷◌, ◌++◌, Option, Some, None, codes, encode_utf8_all, if◌then◌else◌}
use Rattle.std.specs.Char.{is_control}
use Rattle.std.specs.Fmt.{digit_glyph}
use Rattle.std.specs.List.{flat_map}
use Rattle.std.specs.Str.{chars}

-- a byte in two hexadecimal digits
abbrev pub byte_text : (byte : ℕ) → List ℕ
byte_text byte = digit_glyph false (byte / 16) ∷ digit_glyph false (byte % 16) ∷ []

-- a character of a line: control characters, U+0000 to U+001F and U+007F to U+009F, are written as in JSON (RFC 8259, section 7), `\u` and four hexadecimal digits
abbrev pub line_char : (c : ℕ) → List ℕ
line_char c = if is_control c then codes "\\u00" ++ byte_text c else c ∷ []

abbrev pub escaped : (text : List ℕ) → List ℕ
escaped text = encode_utf8_all (flat_map line_char (chars text))

-- the path of a file before what is said of it
abbrev pub path_part : (path : Option (List ℕ)) → List ℕ
path_part (Some path) = escaped path ++ codes ": "
path_part None = []

-- the line that says words, of the file at a path if there is one
abbrev pub line_of : (path : Option (List ℕ)) (words : List ℕ) → List ℕ
line_of path words = codes "binfarce: " ++ (path_part path ++ escaped words)
