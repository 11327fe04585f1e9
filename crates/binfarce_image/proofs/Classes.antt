-- What the tables of both classes have in common: each number that an image writes is read where it was put.
use Rattle.std.proofs.Common.{ℕ, ◌^◌, ◌<◌, length, refl, arith}
use Rattle.binfarce.specs.Elf.{ElfClass, elf32, elf64}
use Rattle.binfarce_image.specs.declared.image.ElfLayout.{ElfLayout}
use Rattle.binfarce_image.specs.declared.image.ElfLayout.TheVariants.{Elf32Little, Elf32Big, Elf64Little, Elf64Big}
use Rattle.binfarce_image.specs.declared.image.Image.{Image}
use Rattle.binfarce_image.specs.declared.image.Part.{Part}
use Rattle.binfarce_image.specs.declared.image.Row.{Row}
use Rattle.binfarce_image.specs.Image.{class_of, bodies_end, body_length, entry_length, name_offset, part_kind, part_link, symbol_numbers, section_numbers, header_numbers}
use Rattle.binfarce_image.proofs.Fields.{IsPut}

-- what a section header says is read where it was put
pub record SectionPut (class : ElfClass) (place : ℕ) (part : Part) : Type 0 where
  pub name : IsPut class.section_length class.section.name (section_numbers class place part) (name_offset part) (2 ^ 32)
  pub kind : IsPut class.section_length class.section.kind (section_numbers class place part) (part_kind part) (2 ^ 32)
  pub flags : IsPut class.section_length class.section.flags (section_numbers class place part) 0 (2 ^ 32)
  pub addr : IsPut class.section_length class.section.addr (section_numbers class place part) 0 (2 ^ 32)
  pub link : IsPut class.section_length class.section.link (section_numbers class place part) (part_link part) (2 ^ 32)
  pub offset : IsPut class.section_length class.section.offset (section_numbers class place part) place (2 ^ 32)
  pub size : IsPut class.section_length class.section.size (section_numbers class place part) (body_length class part) (2 ^ 32)
  pub entry_size : IsPut class.section_length class.section.entry_size (section_numbers class place part) (entry_length class part) (2 ^ 32)

-- what a row says
pub record SymbolPut (class : ElfClass) (row : Row) : Type 0 where
  pub name : IsPut class.symbol_length class.symbol.name (symbol_numbers class row) row.name (2 ^ 32)
  pub value : IsPut class.symbol_length class.symbol.value (symbol_numbers class row) row.address (2 ^ 32)
  pub size : IsPut class.symbol_length class.symbol.size (symbol_numbers class row) row.size (2 ^ 32)
  pub info : IsPut class.symbol_length class.symbol.info (symbol_numbers class row) row.info (2 ^ 8)
  pub other : IsPut class.symbol_length class.symbol.other (symbol_numbers class row) row.other (2 ^ 8)
  pub section : IsPut class.symbol_length class.symbol.section (symbol_numbers class row) row.section (2 ^ 16)

-- what the header says of the section headers
pub record HeaderPut (class : ElfClass) (image : Image) : Type 0 where
  pub shoff : IsPut class.header_length class.header.shoff (header_numbers class image) (bodies_end class class.header_length image.parts.items) (2 ^ 32)
  pub shnum : IsPut class.header_length class.header.shnum (header_numbers class image) (length image.parts.items) (2 ^ 16)
  pub shstrndx : IsPut class.header_length class.header.shstrndx (header_numbers class image) image.names_at (2 ^ 16)

pub record IsClass (class : ElfClass) : Type 0 where
  pub section_put : (place : ℕ) (part : Part) → SectionPut class place part
  pub symbol_put : (row : Row) → SymbolPut class row
  pub header_put : (image : Image) → HeaderPut class image
  pub section_some : 0 < class.section_length
  pub symbol_some : 0 < class.symbol_length

is_elf32 : IsClass elf32
unfolding elf32
is_elf32 = record {
  section_put = λ place part. record {
    name = record { last = refl; room = refl };
    kind = record { last = refl; room = refl };
    flags = record { last = refl; room = refl };
    addr = record { last = refl; room = refl };
    link = record { last = refl; room = refl };
    offset = record { last = refl; room = refl };
    size = record { last = refl; room = refl };
    entry_size = record { last = refl; room = refl };
  };
  symbol_put = λ row. record {
    name = record { last = refl; room = refl };
    value = record { last = refl; room = refl };
    size = record { last = refl; room = refl };
    info = record { last = refl; room = refl };
    other = record { last = refl; room = refl };
    section = record { last = refl; room = refl };
  };
  header_put = λ image. record {
    shoff = record { last = refl; room = refl };
    shnum = record { last = refl; room = refl };
    shstrndx = record { last = refl; room = refl };
  };
  section_some = omega arith;
  symbol_some = omega arith;
}

is_elf64 : IsClass elf64
unfolding elf64
is_elf64 = record {
  section_put = λ place part. record {
    name = record { last = refl; room = refl };
    kind = record { last = refl; room = refl };
    flags = record { last = refl; room = refl };
    addr = record { last = refl; room = refl };
    link = record { last = refl; room = refl };
    offset = record { last = refl; room = refl };
    size = record { last = refl; room = refl };
    entry_size = record { last = refl; room = refl };
  };
  symbol_put = λ row. record {
    name = record { last = refl; room = refl };
    value = record { last = refl; room = refl };
    size = record { last = refl; room = refl };
    info = record { last = refl; room = refl };
    other = record { last = refl; room = refl };
    section = record { last = refl; room = refl };
  };
  header_put = λ image. record {
    shoff = record { last = refl; room = refl };
    shnum = record { last = refl; room = refl };
    shstrndx = record { last = refl; room = refl };
  };
  section_some = omega arith;
  symbol_some = omega arith;
}

pub is_class : (layout : ElfLayout) → IsClass (class_of layout)
is_class Elf32Little = is_elf32
is_class Elf32Big = is_elf32
is_class Elf64Little = is_elf64
is_class Elf64Big = is_elf64
