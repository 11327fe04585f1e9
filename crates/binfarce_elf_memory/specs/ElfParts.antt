-- The section headers alone, and what clauses see of the sections that are found in them.
use Rattle.std.specs.Prelude.{◌≡◌, ℕ, List}
use Rattle.binfarce_bytes.specs.declared.ByteOrder.{ByteOrder}
use Rattle.binfarce_bytes.specs.Walk.{Walk}
use Rattle.binfarce_elf.specs.Elf.{ElfClass, SectionTable, Section, header_of}
use Rattle.binfarce_elf_memory.specs.declared.parts.HeaderTable.{HeaderTable}
use Rattle.binfarce_elf_memory.specs.declared.parts.AnySections.{AnySections}
use Rattle.binfarce_elf_memory.specs.declared.parts.AnySections.TheVariants.{Narrow, Wide}
use Rattle.binfarce_elf_memory.specs.ElfEnds.{file_kind}
use Rattle.binfarce_elf_memory.specs.SelectionViews.{kind_view}

-- the section headers alone, as a table that begins at its first byte
abbrev pub headers_alone : ByteOrder → List ℕ → ℕ → SectionTable
headers_alone order headers count = record { order = order; file = headers; shoff = 0; shnum = count; shstrndx = 0 }

-- the header of a file states this place of its section headers, its type and its machine, and this place of its program headers
abbrev pub IsPlaceOf : ElfClass → ByteOrder → List ℕ → HeaderTable → Type 0
IsPlaceOf class order file p =
    let header = header_of class order file in
    (p.byte_order ≡ order) × (p.shoff ≡ header.shoff) × (p.shnum ≡ header.shnum) × (p.shstrndx ≡ header.shstrndx) × (kind_view p.kind ≡ file_kind header) × (p.phoff ≡ header.phoff) × (p.phnum ≡ header.phnum)

-- the sections that an iterator has left
abbrev pub sections_left : AnySections → Walk Section
sections_left (Narrow sections) = sections
sections_left (Wide sections) = sections
