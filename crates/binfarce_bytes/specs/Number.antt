-- The number that bytes hold, and the bytes at an offset (gABI, "Data Representation").
use Rattle.std.specs.Prelude.{ℕ, ◌+◌, ◌*◌, ◌^◌, List, [], ◌∷◌, take, drop, reverse, nat_lt, if◌then◌else◌, ℤ, pos, ◌-ℤ◌}
use Rattle.binfarce_bytes.specs.declared.ByteOrder.{ByteOrder}
use Rattle.binfarce_bytes.specs.declared.ByteOrder.TheVariants.{LittleEndian, BigEndian}

-- byte k weighs 256^k
unfoldable pub little_endian : List ℕ → ℕ
little_endian [] = 0
little_endian (byte ∷ bytes) = byte + 256 * little_endian bytes

-- big endian reads the mirror
unfoldable pub number : ByteOrder → List ℕ → ℕ
number LittleEndian bytes = little_endian bytes
number BigEndian bytes = little_endian (reverse bytes)

-- two's complement: the number less 256^width where the top bit is set
unfoldable pub signed : ℕ → ℕ → ℤ
signed width n = if nat_lt (2 * n) (256 ^ width) then pos n else (pos n -ℤ pos (256 ^ width))

-- the bytes of a field: as many as its width, from its offset on. They are fewer where the file ends; a separate comparison of lengths says whether
-- all are there
abbrev pub bytes_at : List ℕ → ℕ → ℕ → List ℕ
bytes_at file place width = take width (drop place file)
