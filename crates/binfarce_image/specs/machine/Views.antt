-- Views of the code's tables, for private clauses.
use Rattle.std.specs.Prelude.{ℕ, ◌+◌, ◌<◌, ◌^◌, ◌&&◌, Bool, List, map, nat_le}
use Rattle.std.specs.List.{AllByRecursion, list_all}
use Rattle.binfarce.specs.Elf as elf
use Rattle.binfarce.specs.Field as field
use Rattle.binfarce_image.specs.declared.image.Part.{Part}
use Rattle.binfarce_image.specs.declared.image.Part.TheVariants.{Bytes, Table}
use Rattle.binfarce_image.specs.declared.image.tables.Field.{Field}
use Rattle.binfarce_image.specs.declared.image.tables.Header.{Header}
use Rattle.binfarce_image.specs.declared.image.tables.SectionHeader.{SectionHeader}
use Rattle.binfarce_image.specs.declared.image.tables.SymbolRow.{SymbolRow}
use Rattle.binfarce_image.specs.declared.image.tables.Class.{Class}
use Rattle.binfarce_image.specs.Image.{name_offset, part_kind, part_link}
use Rattle.binfarce_image.specs.ImageSymbols.{RowFits}

abbrev pub field_view : Field → field.Field
field_view f = record { offset = f.0; width = f.1 }

abbrev pub header_view : Header → elf.Header field.Field
header_view h = record { elf_type = field_view h.elf_type; machine = field_view h.machine; version = field_view h.version; entry = field_view h.entry; phoff = field_view h.phoff; shoff = field_view h.shoff; flags = field_view h.flags; ehsize = field_view h.ehsize; phentsize = field_view h.phentsize; phnum = field_view h.phnum; shentsize = field_view h.shentsize; shnum = field_view h.shnum; shstrndx = field_view h.shstrndx }

abbrev pub section_view : SectionHeader → elf.SectionHeader field.Field
section_view s = record { name = field_view s.name; kind = field_view s.kind; flags = field_view s.flags; addr = field_view s.addr; offset = field_view s.offset; size = field_view s.size; link = field_view s.link; info = field_view s.info; addralign = field_view s.addralign; entry_size = field_view s.entry_size }

abbrev pub symbol_view : SymbolRow → elf.SymbolRow field.Field
symbol_view s = record { name = field_view s.name; value = field_view s.value; size = field_view s.size; info = field_view s.info; other = field_view s.other; section = field_view s.section }

abbrev pub class_view : Class → elf.ElfClass
class_view c = record { header_length = c.header_length; section_length = c.section_length; symbol_length = c.symbol_length; header = header_view c.header; section = section_view c.section; symbol = symbol_view c.symbol }

-- numbers and the fields that they are put into
abbrev pub numbers_view : List (Field × ℕ) → List (field.Field × ℕ)
numbers_view numbers = map (λ number. (field_view number.0, number.1)) numbers

-- a field lies in a structure of this length, and is no wider than 8 bytes
abbrev pub fits : ℕ → field.Field → Bool
fits length f = nat_le (f.offset + f.width) length && nat_le f.width 8

-- each field does
abbrev pub all_fit : ℕ → List (field.Field × ℕ) → Bool
all_fit length numbers = list_all (λ number. fits length number.0) numbers

-- the numbers in the body of a part fit their types
abbrev pub BodyFits : Part → Type 0
BodyFits (Bytes name kind link body) = Unit {0}
BodyFits (Table name link rows) = AllByRecursion RowFits rows.items

-- the numbers in the section header of a part fit their types
abbrev pub HeaderFits : Part → Type 0
HeaderFits part = (name_offset part < 2 ^ 32) × (part_kind part < 2 ^ 32) × (part_link part < 2 ^ 32)
