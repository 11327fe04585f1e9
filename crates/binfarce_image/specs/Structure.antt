-- The bytes of a number, and of a structure whose fields hold numbers (System V gABI, "Data Representation").
use Rattle.std.specs.Prelude.{ℕ, zero, suc, ◌+◌, ◌/◌, ◌%◌, List, [], ◌∷◌, ◌++◌, length, take, drop, reverse}
use Rattle.std.specs.List.{fold}
use Rattle.binfarce.specs.declared.ByteOrder.{ByteOrder}
use Rattle.binfarce.specs.declared.ByteOrder.TheVariants.{LittleEndian, BigEndian}
use Rattle.binfarce.specs.Field.{Field}

-- the bytes of a number, the least first
unfoldable pub little_endian_bytes : ℕ → ℕ → List ℕ
little_endian_bytes zero n = []
little_endian_bytes (suc width) n = (n % 256) ∷ little_endian_bytes width (n / 256)

-- big endian writes the mirror
unfoldable pub number_bytes : ByteOrder → ℕ → ℕ → List ℕ
number_bytes LittleEndian width n = little_endian_bytes width n
number_bytes BigEndian width n = reverse (little_endian_bytes width n)

-- the bytes, overwritten from an offset on with others
abbrev pub written_at : List ℕ → ℕ → List ℕ → List ℕ
written_at bytes place others = take place bytes ++ (others ++ drop (place + length others) bytes)

-- the bytes after a number was put into its field
unfoldable pub put : ByteOrder → List ℕ → Field × ℕ → List ℕ
put order bytes (f, n) = written_at bytes f.offset (number_bytes order f.width n)

-- the bytes after each number was put into its field
abbrev pub filled : ByteOrder → List ℕ → List (Field × ℕ) → List ℕ
filled order bytes numbers = fold (put order) bytes numbers
