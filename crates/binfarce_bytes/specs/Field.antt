-- The fields of a structure: their offsets, and the numbers that they hold.
use Rattle.std.specs.Prelude.{ℕ, ◌+◌, List}
use Rattle.binfarce_bytes.specs.declared.ByteOrder.{ByteOrder}
use Rattle.binfarce_bytes.specs.declared.ByteOrder.TheVariants.{LittleEndian}
use Rattle.binfarce_bytes.specs.Number.{number, bytes_at}

-- the offset of a field in its structure, and how many bytes it has
pub record Field : Type 0 where
  pub offset : ℕ
  pub width : ℕ

abbrev pub field : ℕ → ℕ → Field
field offset width = record { offset = offset; width = width }

-- the number in a field of the structure that begins at start; of a field that is truncated, that of the bytes that are there
abbrev pub value_at : ByteOrder → List ℕ → ℕ → Field → ℕ
value_at order file start f = number order (bytes_at file (start + f.offset) f.width)

-- the same where every number is little endian
abbrev pub number_in : List ℕ → ℕ → Field → ℕ
number_in file start f = value_at LittleEndian file start f
