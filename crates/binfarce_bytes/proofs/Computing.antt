-- One name to unfold where a proof computes numbers and texts of bytes that are written out.
use Rattle.std.specs.Char.{encode_utf8}
use Rattle.std.specs.Str.{chars, is_utf8}
use Rattle.binfarce_bytes.specs.Number.{little_endian, number, signed}
use Rattle.binfarce_bytes.specs.Text.{text_at, padded_name, padded_text}

unfoldable pub computing : Unit {0}
unfolding chars is_utf8 encode_utf8 little_endian number signed text_at padded_name padded_text
computing = tt
