-- Rows as lines or as JSON objects (RFC 8259), and the members of these.
use Rattle.std.specs.Prelude.{ℕ, ◌/◌, ◌%◌, false, List, [], ◌∷◌, ◌++◌, Option, Some, None, codes, encode_utf8_all, nat_eq, nat_lt, if◌then◌else◌}
use Rattle.std.specs.Fmt.{decimal, digit_glyph}
use Rattle.std.specs.List.{flat_map}
use Rattle.std.specs.Str.{chars}
use Rattle.binfarce_rows.specs.Columns.{address_text}
use Rattle.binfarce_rows.specs.declared.json.Form.{Form}
use Rattle.binfarce_rows.specs.declared.json.Form.TheVariants.{Lines, Objects}

-- how rows are written: as lines, or as objects with these names of the file and of the selected section
pub data Style : Type 0 where
  lines : Style
  objects : (file section : List ℕ) → Style

abbrev pub style_of : Form → Style
style_of Lines = lines
style_of (Objects file section) = objects file.now section.now

-- `\u` and four hexadecimal digits, of a control character
abbrev pub control : ℕ → List ℕ
control c = codes "\\u00" ++ (digit_glyph false (c / 16) ∷ digit_glyph false (c % 16) ∷ [])

-- a character of a text: the quotation mark, the reverse solidus and control characters are escaped (section 7)
abbrev pub json_char : (c : ℕ) → List ℕ
json_char c = if nat_eq c 34 then codes "\\\"" else (if nat_eq c 92 then codes "\\\\" else (if nat_lt c 32 then control c else c ∷ []))

abbrev pub json_chars : List ℕ → List ℕ
json_chars text = encode_utf8_all (flat_map json_char (chars text))

-- a text, in quotation marks
abbrev pub json_text : List ℕ → List ℕ
json_text text = codes "\"" ++ (json_chars text ++ codes "\"")

-- a text, or null
abbrev pub text_value : Option (List ℕ) → List ℕ
text_value (Some text) = json_text text
text_value None = codes "null"

-- the beginning of an object: a brace, and the member `file`; each other member comes after a comma
abbrev pub object_start : (file : List ℕ) → List ℕ
object_start file = codes "{\"file\":" ++ json_text file

-- a member of this name whose value is a text, or null
abbrev pub text_member : (name : List ℕ) → Option (List ℕ) → List ℕ
text_member name value = codes ",\"" ++ (name ++ (codes "\":" ++ text_value value))

-- a member of this name whose value is a number
abbrev pub number_member : (name : List ℕ) → ℕ → List ℕ
number_member name n = codes ",\"" ++ (name ++ (codes "\":" ++ decimal n))

-- the member `address`, in 16 hexadecimal digits after `0x`
abbrev pub address_member : ℕ → List ℕ
address_member address = codes ",\"address\":\"0x" ++ (address_text address ++ codes "\"")
