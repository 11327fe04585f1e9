-- The file header and a section header from their fields, each the number at its offset.
use Rattle.std.proofs.Common.{◌≡◌, ℕ, ◌+◌, ◌*◌, List, ap, ◌∙◌, arith}
use Rattle.binfarce_bytes.specs.declared.ByteOrder.{ByteOrder}
use Rattle.binfarce_bytes.specs.Number.{number, bytes_at}
use Rattle.binfarce_bytes.specs.declared.parser.Stream.{Stream}
use Rattle.binfarce_elf.specs.Elf.{ElfClass, header_of, section_at}
use Rattle.binfarce_elf.specs.machine.RawElf.{fields_of_header, fields_of_section}

from_start : (n : ℕ) → 0 + n ≡ n
from_start n = omega arith

pub header_is : (class : ElfClass) (w : ℕ) (order : ByteOrder) (file : List ℕ) (elf_type machine version entry phoff shoff flags ehsize phentsize phnum shentsize shnum shstrndx : ℕ)
    → class.header ≡ fields_of_header w
    → elf_type ≡ number order (bytes_at file 16 2)
    → machine ≡ number order (bytes_at file 18 2)
    → version ≡ number order (bytes_at file 20 4)
    → entry ≡ number order (bytes_at file 24 w)
    → phoff ≡ number order (bytes_at file (24 + w) w)
    → shoff ≡ number order (bytes_at file (24 + 2 * w) w)
    → flags ≡ number order (bytes_at file (24 + 3 * w) 4)
    → ehsize ≡ number order (bytes_at file (28 + 3 * w) 2)
    → phentsize ≡ number order (bytes_at file (30 + 3 * w) 2)
    → phnum ≡ number order (bytes_at file (32 + 3 * w) 2)
    → shentsize ≡ number order (bytes_at file (34 + 3 * w) 2)
    → shnum ≡ number order (bytes_at file (36 + 3 * w) 2)
    → shstrndx ≡ number order (bytes_at file (38 + 3 * w) 2)
    → (record { elf_type = elf_type; machine = machine; version = version; entry = entry; phoff = phoff; shoff = shoff; flags = flags; ehsize = ehsize; phentsize = phentsize; phnum = phnum; shentsize = shentsize; shnum = shnum; shstrndx = shstrndx }) ≡ header_of class order file
unfolding header_of
header_is class w order file elf_type machine version entry phoff shoff flags ehsize phentsize phnum shentsize shnum shstrndx layout is_elf_type is_machine is_version is_entry is_phoff is_shoff is_flags is_ehsize is_phentsize is_phnum is_shentsize is_shnum is_shstrndx = rw layout (cc (from_start (24 + w), from_start (24 + 2 * w), from_start (24 + 3 * w), from_start (28 + 3 * w), from_start (30 + 3 * w), from_start (32 + 3 * w), from_start (34 + 3 * w), from_start (36 + 3 * w), from_start (38 + 3 * w)))

-- the stream is at an offset of these bytes
pub record IsAt (bytes : List ℕ) (order : ByteOrder) (offset : ℕ) (s : Stream) : Type 0 where
  pub bytes_are : s.bytes.now ≡ bytes
  pub order_is : s.byte_order ≡ order
  pub offset_is : s.offset ≡ offset

-- it has moved on by so many bytes
pub moved : (bytes : List ℕ) (order : ByteOrder) (n k m : ℕ) (s t : Stream) → IsAt bytes order n s → t ≡ record s { offset = s.offset + k } → n + k ≡ m → IsAt bytes order m t
moved bytes order n k m s t at e sum = record {
  bytes_are = ap (λ (u : Stream). u.bytes.now) e ∙ at.bytes_are;
  order_is = ap (λ (u : Stream). u.byte_order) e ∙ at.order_is;
  offset_is = ap (λ (u : Stream). u.offset) e ∙ ap (λ (o : ℕ). o + k) at.offset_is ∙ sum;
}

-- what is read there is the number of the bytes there
pub read_at : (bytes : List ℕ) (order : ByteOrder) (n k v : ℕ) (s : Stream) → IsAt bytes order n s → v ≡ number s.byte_order (bytes_at s.bytes.now s.offset k) → v ≡ number order (bytes_at bytes n k)
read_at bytes order n k v s at e = e ∙ cc (at.bytes_are, at.order_is, at.offset_is)

pub section_is : (class : ElfClass) (w : ℕ) (order : ByteOrder) (file : List ℕ) (start index name kind flags address offset size link entry_size : ℕ)
    → class.section ≡ fields_of_section w
    → name ≡ number order (bytes_at file (start + 0) 4)
    → kind ≡ number order (bytes_at file (start + 4) 4)
    → flags ≡ number order (bytes_at file (start + 8) w)
    → address ≡ number order (bytes_at file (start + (8 + w)) w)
    → offset ≡ number order (bytes_at file (start + (8 + 2 * w)) w)
    → size ≡ number order (bytes_at file (start + (8 + 3 * w)) w)
    → link ≡ number order (bytes_at file (start + (8 + 4 * w)) 4)
    → entry_size ≡ number order (bytes_at file (start + (16 + 5 * w)) w)
    → (record { index = index; name_offset = name; kind = kind; flags = flags; address = address; link = link; offset = offset; size = size; entry_size = entry_size }) ≡ section_at class order file start index
unfolding section_at
section_is class w order file start index name kind flags address offset size link entry_size layout is_name is_kind is_flags is_address is_offset is_size is_link is_entry_size = rw layout (cc)
