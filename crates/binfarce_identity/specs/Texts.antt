-- The printed text of an identity.
use Rattle.std.specs.Prelude.{ℕ, ◌/◌, ◌%◌, Bool, true, false, List, [], ◌∷◌, ◌++◌, length, codes, nat_lt, if◌then◌else◌}
use Rattle.std.specs.Fmt.{digit_glyph, digits}
use Rattle.std.specs.List.{flat_map}
use Rattle.binfarce_bytes.specs.Field.{field, number_in}
use Rattle.binfarce_bytes.specs.Number.{bytes_at}
use Rattle.binfarce_identity.specs.Identity.{Identity}
use Rattle.binfarce_identity.specs.declared.identity.Kind.{Kind}
use Rattle.binfarce_identity.specs.declared.identity.Kind.TheVariants.{BuildId, Uuid, CodeView}

-- bytes in two hexadecimal digits each, in upper case or not
abbrev pub byte_digits : (upper : Bool) → (byte : ℕ) → List ℕ
byte_digits upper byte = digit_glyph upper (byte / 16) ∷ digit_glyph upper (byte % 16) ∷ []

abbrev pub hex : (upper : Bool) → (bytes : List ℕ) → List ℕ
hex upper bytes = flat_map (byte_digits upper) bytes

-- so many bytes from an offset on, in upper case
abbrev pub upper_at : (bytes : List ℕ) → (offset size : ℕ) → List ℕ
upper_at bytes offset size = hex true (bytes_at bytes offset size)

-- a UUID (RFC 9562, section 4)
unfoldable pub uuid_text : (bytes : List ℕ) → List ℕ
uuid_text bytes =
    upper_at bytes 0 4
    ++ (codes "-" ++ (upper_at bytes 4 2 ++ (codes "-" ++ (upper_at bytes 6 2
    ++ (codes "-" ++ (upper_at bytes 8 2 ++ (codes "-" ++ upper_at bytes 10 6)))))))

-- a GUID: its first three numbers, of 4, 2 and 2 bytes, are little endian
unfoldable pub guid_text : (bytes : List ℕ) → List ℕ
guid_text bytes =
    upper_at bytes 3 1
    ++ (upper_at bytes 2 1 ++ (upper_at bytes 1 1 ++ (upper_at bytes 0 1
    ++ (upper_at bytes 5 1 ++ (upper_at bytes 4 1 ++ (upper_at bytes 7 1 ++ (upper_at bytes 6 1 ++ upper_at bytes 8 8)))))))

-- the age behind it, in hexadecimal digits without zeros before them
abbrev pub age_text : (bytes : List ℕ) → List ℕ
age_text bytes = if nat_lt (length bytes) 20 then [] else digits 16 false (number_in bytes 16 (field 0 4))

-- a build ID as `readelf -n` prints it, a UUID as `dwarfdump --uuid`, and a GUID with its age as a symbol server's paths have them
abbrev pub text_as : Kind → (bytes : List ℕ) → List ℕ
text_as BuildId bytes = hex false bytes
text_as Uuid bytes = uuid_text bytes
text_as CodeView bytes = guid_text bytes ++ age_text bytes

abbrev pub text_of : Identity → List ℕ
text_of i = text_as i.kind i.bytes
